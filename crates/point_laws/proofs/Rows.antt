-- Worked rows: the driver's notes of docs/NOTES.md without a point, and behind them what is printed of one, are one document: that of
-- the notes with the point among their tables.
use Rattle.point_laws.proofs.Common.{codes, is_some, List, parse_document, refl, true, ℕ, ◌++◌, ◌≡◌}
use Rattle.toml.proofs.OnLiterals.{toml_on_literals}

abbrev before : List ℕ
before =
    codes "version = 1\nentry = \"main\"\n\n[[shape]]\nname = \"Sys\"\nsize = [2, 0]\n"
    ++ codes "fields = [\"loc 0 0 method:Locate\", \"reg 1 0 method:Register\"]\n\n[[shape]]\nname = \"Blk\"\n"
    ++ codes "size = [2, 0]\nfields = [\"count 0 0 i32\", \"next 1 0 ptr?:Blk\"]\n\n[[shape]]\nname = \"L\"\nsize = [1, 0]\n"
    ++ codes "fields = [\"p 0 0 ptr:Blk\"]\n\n[[thunk]]\nplace = 0x2000\nfunction = \"tick\"\n\n[[function]]\n"
    ++ codes "name = \"main\"\nplace = 0x1000\nend = 0x1044\nlevel = 1\nneed = [2, 0]\nlocals = \"L\"\n"
    ++ codes "params = [\"n handle\", \"n ptr:Sys\"]\nresult = \"status\"\n\n[[function]]\nname = \"tick\"\nplace = 0x1044\n"
    ++ codes "end = 0x104A\nlevel = 0\nneed = [0, 0]\nparams = [\"n int:0..4294967295\"]\nresult = \"status\"\n"
    ++ codes "enter = true\n"

abbrev behind : List ℕ
behind =
    codes "[[signature]]\nname = \"locate\"\nmethod = \"Locate\"\nparams = [\"n out:ptr:Blk\"]\nresult = \"status\"\n\n"
    ++ codes "[[signature]]\nname = \"register\"\nmethod = \"Register\"\nparams = [\"n entry\"]\nresult = \"status\"\n\n"
    ++ codes "[[site]]\nplace = 0x1014\nsignature = \"locate\"\n\n[[site]]\nplace = 0x1032\nsignature = \"register\"\n"

abbrev point : List ℕ
point = codes "[[point]]\nplace = 0x103E\nregs = [\"R5 sstatus!p\", \"R7 status!p\"]\nstack = [\"locals\"]\nwritten = []\nmade = 1\n"

-- what is printed of it
abbrev printed : List ℕ
printed = codes "[[point]]\nplace = 4158\nregs = [\"R5 sstatus!p\", \"R7 status!p\"]\nstack = [\"locals\"]\nwritten = []\nmade = 1\n"

a_document : is_some (parse_document (before ++ (behind ++ printed))) ≡ true
unfolding toml_on_literals
a_document = refl

the_driver : parse_document (before ++ (behind ++ printed)) ≡ parse_document (before ++ (point ++ behind))
unfolding toml_on_literals
the_driver = refl
