-- Meaning: the mnemonics, as they are written and read: docs/ASSEMBLY.md, "Mnemonics"; UEFI specification, "EBC Instruction
-- Set".
use Rattle.std.specs.Prelude.{⊤, ℕ, List, [], ◌∷◌, ◌++◌, Option, Some, None, option_map, option_and_then, Bool, true, false, nat_eq, ◌==◌}
use Rattle.std.specs.Prelude.{if◌then◌else◌, nat_lt, ◌&&◌, ◌||◌, take, drop, codes, bytes_eq}
use Rattle.std.specs.List.{position_or_len}
use Rattle.natural_index.specs.Index.{IsIndexSize}
use Rattle.ebc_insn.specs.declared.Cond.{Cond}
use Rattle.ebc_insn.specs.declared.Cond.TheVariants as conds
use Rattle.ebc_insn.specs.declared.Size.{Size}
use Rattle.ebc_insn.specs.declared.Size.TheVariants as sizes
use Rattle.ebc_insn.specs.declared.CmpOp.{CmpOp}
use Rattle.ebc_insn.specs.declared.CmpOp.TheVariants as cmps
use Rattle.ebc_insn.specs.declared.ArithOp.{ArithOp}
use Rattle.ebc_insn.specs.declared.ArithOp.TheVariants as ops
use Rattle.ebc_insn.specs.Spelling.{IsWordOrDword, MoveFits, NotNatural}
use Rattle.asm_text.specs.declared.form.Form.{Form}
use Rattle.asm_text.specs.declared.form.Form.TheVariants as forms

-- ---- writing

abbrev pub arith_stem : ArithOp → List ℕ
arith_stem ops.Not = codes "NOT"
arith_stem ops.Neg = codes "NEG"
arith_stem ops.Add = codes "ADD"
arith_stem ops.Sub = codes "SUB"
arith_stem ops.Mul = codes "MUL"
arith_stem ops.Mulu = codes "MULU"
arith_stem ops.Div = codes "DIV"
arith_stem ops.Divu = codes "DIVU"
arith_stem ops.Mod = codes "MOD"
arith_stem ops.Modu = codes "MODU"
arith_stem ops.And = codes "AND"
arith_stem ops.Or = codes "OR"
arith_stem ops.Xor = codes "XOR"
arith_stem ops.Shl = codes "SHL"
arith_stem ops.Shr = codes "SHR"
arith_stem ops.Ashr = codes "ASHR"
arith_stem ops.Extb = codes "EXTNDB"
arith_stem ops.Extw = codes "EXTNDW"
arith_stem ops.Extd = codes "EXTNDD"

abbrev pub cmp_text : CmpOp → List ℕ
cmp_text cmps.Eq = codes "eq"
cmp_text cmps.Lte = codes "lte"
cmp_text cmps.Gte = codes "gte"
cmp_text cmps.Ulte = codes "ulte"
cmp_text cmps.Ugte = codes "ugte"

abbrev pub cond_text : Cond → List ℕ
cond_text conds.Always = []
cond_text conds.Set = codes "cs"
cond_text conds.Clear = codes "cc"

abbrev pub wide_text : Bool → List ℕ
wide_text false = codes "32"
wide_text true = codes "64"

abbrev pub native_text : Bool → List ℕ
native_text true = codes "EX"
native_text false = []

abbrev pub relative_text : Bool → List ℕ
relative_text true = []
relative_text false = codes "a"

abbrev pub long_text : Bool → List ℕ
long_text false = codes "w"
long_text true = codes "d"

abbrev pub size_letter : Size → ℕ
size_letter sizes.Byte = 98
size_letter sizes.Word = 119
size_letter sizes.Dword = 100
size_letter sizes.Qword = 113
size_letter sizes.Natural = 110

-- w, d and q for 16, 32 and 64 bits
abbrev pub bits_letter : ℕ → ℕ
bits_letter bits = if nat_eq bits 16 then 119 else if nat_eq bits 32 then 100 else 113

-- the upper-case letters of a mnemonic
abbrev pub stem_of_form : Form → List ℕ
stem_of_form forms.Break = codes "BREAK"
stem_of_form (forms.Jump cond far relative) = codes "JMP"
stem_of_form (forms.Jump8 cond) = codes "JMP"
stem_of_form (forms.Call far native relative) = codes "CALL"
stem_of_form forms.Ret = codes "RET"
stem_of_form (forms.Compare op wide) = codes "CMP"
stem_of_form (forms.CompareImm op wide long) = codes "CMPI"
stem_of_form (forms.Arith op wide) = arith_stem op
stem_of_form (forms.Move size bits) = codes "MOV"
stem_of_form (forms.MoveSigned bits) = codes "MOV"
stem_of_form (forms.MoveImm size bits) = codes "MOVI"
stem_of_form (forms.MoveImmNatural bits) = codes "MOVI"
stem_of_form (forms.MoveRelative bits) = codes "MOVREL"
stem_of_form forms.LoadSpecial = codes "LOADSP"
stem_of_form forms.StoreSpecial = codes "STORESP"
stem_of_form (forms.Push wide) = codes "PUSH"
stem_of_form (forms.Pop wide) = codes "POP"
stem_of_form forms.PushNatural = codes "PUSH"
stem_of_form forms.PopNatural = codes "POP"

-- what follows them
abbrev pub suffix_of_form : Form → List ℕ
suffix_of_form forms.Break = []
suffix_of_form (forms.Jump cond far relative) = wide_text far ++ (relative_text relative ++ cond_text cond)
suffix_of_form (forms.Jump8 cond) = 56 ∷ cond_text cond
suffix_of_form (forms.Call far native relative) = wide_text far ++ (native_text native ++ relative_text relative)
suffix_of_form forms.Ret = []
suffix_of_form (forms.Compare op wide) = wide_text wide ++ cmp_text op
suffix_of_form (forms.CompareImm op wide long) = wide_text wide ++ (long_text long ++ cmp_text op)
suffix_of_form (forms.Arith op wide) = wide_text wide
suffix_of_form (forms.Move size bits) = size_letter size ∷ bits_letter bits ∷ []
suffix_of_form (forms.MoveSigned bits) = 115 ∷ 110 ∷ bits_letter bits ∷ []
suffix_of_form (forms.MoveImm size bits) = size_letter size ∷ bits_letter bits ∷ []
suffix_of_form (forms.MoveImmNatural bits) = 110 ∷ bits_letter bits ∷ []
suffix_of_form (forms.MoveRelative bits) = bits_letter bits ∷ []
suffix_of_form forms.LoadSpecial = []
suffix_of_form forms.StoreSpecial = []
suffix_of_form (forms.Push wide) = wide_text wide
suffix_of_form (forms.Pop wide) = wide_text wide
suffix_of_form forms.PushNatural = codes "n"
suffix_of_form forms.PopNatural = codes "n"

-- a mnemonic
unfoldable pub word_of : Form → List ℕ
word_of f = stem_of_form f ++ suffix_of_form f

-- Which forms there are.
abbrev pub FormFits : Form → Type 0
FormFits (forms.Move size bits) = MoveFits size bits
FormFits (forms.MoveSigned bits) = IsWordOrDword bits
FormFits (forms.MoveImm size bits) = IsIndexSize bits × NotNatural size
FormFits (forms.MoveImmNatural bits) = IsIndexSize bits
FormFits (forms.MoveRelative bits) = IsIndexSize bits
FormFits f = ⊤

-- ---- reading

-- whether a byte is no upper-case letter
abbrev pub is_lower : ℕ → Bool
is_lower b = nat_lt b 65 || nat_lt 90 b

-- the upper-case letters in front, and the rest
unfoldable pub stem_of : List ℕ → List ℕ × List ℕ
stem_of word = (take (position_or_len is_lower word) word, drop (position_or_len is_lower word) word)

abbrev pub cond_of : List ℕ → Option Cond
cond_of s =
    if bytes_eq s [] then Some conds.Always
    else if bytes_eq s (codes "cs") then Some conds.Set
    else if bytes_eq s (codes "cc") then Some conds.Clear
    else None

abbrev pub wide_of : List ℕ → Option Bool
wide_of s = if bytes_eq s (codes "32") then Some false else if bytes_eq s (codes "64") then Some true else None

abbrev pub cmp_of : List ℕ → Option CmpOp
cmp_of s =
    if bytes_eq s (codes "eq") then Some cmps.Eq
    else if bytes_eq s (codes "lte") then Some cmps.Lte
    else if bytes_eq s (codes "gte") then Some cmps.Gte
    else if bytes_eq s (codes "ulte") then Some cmps.Ulte
    else if bytes_eq s (codes "ugte") then Some cmps.Ugte
    else None

-- the stems of logic, shifts and extensions
abbrev pub logic_of : List ℕ → Option ArithOp
logic_of s =
    if bytes_eq s (codes "AND") then Some ops.And
    else if bytes_eq s (codes "OR") then Some ops.Or
    else if bytes_eq s (codes "XOR") then Some ops.Xor
    else if bytes_eq s (codes "SHL") then Some ops.Shl
    else if bytes_eq s (codes "SHR") then Some ops.Shr
    else if bytes_eq s (codes "ASHR") then Some ops.Ashr
    else if bytes_eq s (codes "EXTNDB") then Some ops.Extb
    else if bytes_eq s (codes "EXTNDW") then Some ops.Extw
    else if bytes_eq s (codes "EXTNDD") then Some ops.Extd
    else None

abbrev pub arith_of : List ℕ → Option ArithOp
arith_of s =
    if bytes_eq s (codes "NOT") then Some ops.Not
    else if bytes_eq s (codes "NEG") then Some ops.Neg
    else if bytes_eq s (codes "ADD") then Some ops.Add
    else if bytes_eq s (codes "SUB") then Some ops.Sub
    else if bytes_eq s (codes "MUL") then Some ops.Mul
    else if bytes_eq s (codes "MULU") then Some ops.Mulu
    else if bytes_eq s (codes "DIV") then Some ops.Div
    else if bytes_eq s (codes "DIVU") then Some ops.Divu
    else if bytes_eq s (codes "MOD") then Some ops.Mod
    else if bytes_eq s (codes "MODU") then Some ops.Modu
    else logic_of s

abbrev pub size_at : ℕ → Option Size
size_at b =
    if b == 98 then Some sizes.Byte
    else if b == 119 then Some sizes.Word
    else if b == 100 then Some sizes.Dword
    else if b == 113 then Some sizes.Qword
    else if b == 110 then Some sizes.Natural
    else None

abbrev pub bits_at : ℕ → Option ℕ
bits_at b = if b == 119 then Some 16 else if b == 100 then Some 32 else if b == 113 then Some 64 else None

-- 64 bits only beside a size of 64 bits
abbrev pub move_form : Size → ℕ → Option Form
move_form sizes.Qword bits = Some (forms.Move sizes.Qword bits)
move_form size bits = if bits == 64 then None else Some (forms.Move size bits)

abbrev pub move_imm_form : Size → ℕ → Option Form
move_imm_form sizes.Natural bits = Some (forms.MoveImmNatural bits)
move_imm_form size bits = Some (forms.MoveImm size bits)

abbrev pub signed_form : ℕ → Option Form
signed_form bits = if bits == 64 then None else Some (forms.MoveSigned bits)

-- the letters behind MOV: size and bits, or sn and bits
abbrev pub move_letters : List ℕ → Option Form
move_letters (s ∷ w ∷ []) = option_and_then (λ size. option_and_then (λ bits. move_form size bits) (bits_at w)) (size_at s)
move_letters (s ∷ n ∷ w ∷ []) = if s == 115 && n == 110 then option_and_then signed_form (bits_at w) else None
move_letters _ = None

-- the letters behind MOVI: size and bits
abbrev pub move_imm_letters : List ℕ → Option Form
move_imm_letters (s ∷ w ∷ []) = option_and_then (λ size. option_and_then (λ bits. move_imm_form size bits) (bits_at w)) (size_at s)
move_imm_letters _ = None

-- the letter behind MOVREL
abbrev pub relative_letter : List ℕ → Option Form
relative_letter (w ∷ []) = option_map (λ bits. forms.MoveRelative bits) (bits_at w)
relative_letter _ = None

-- behind JMP32 or JMP64
abbrev pub jump_end : Bool → List ℕ → Option Form
jump_end far [] = Some (forms.Jump conds.Always far true)
jump_end far (b ∷ bs) =
    if b == 97 then option_map (λ c. forms.Jump c far false) (cond_of bs)
    else option_map (λ c. forms.Jump c far true) (cond_of (b ∷ bs))

-- behind JMP
abbrev pub jump_form : List ℕ → Option Form
jump_form [] = None
jump_form (b ∷ []) = if b == 56 then Some (forms.Jump8 conds.Always) else None
jump_form (b ∷ c ∷ rest) =
    if b == 56 then option_map (λ d. forms.Jump8 d) (cond_of (c ∷ rest))
    else option_and_then (λ far. jump_end far rest) (wide_of (b ∷ c ∷ []))

-- behind CALL32 or CALL64
abbrev pub call_end : Bool → List ℕ → Option Form
call_end far s =
    if bytes_eq s [] then Some (forms.Call far false true)
    else if bytes_eq s (codes "a") then Some (forms.Call far false false)
    else if bytes_eq s (codes "EX") then Some (forms.Call far true true)
    else if bytes_eq s (codes "EXa") then Some (forms.Call far true false)
    else None

-- behind CALL
abbrev pub call_form : List ℕ → Option Form
call_form (b ∷ c ∷ rest) = option_and_then (λ far. call_end far rest) (wide_of (b ∷ c ∷ []))
call_form _ = None

-- behind CMP
abbrev pub compare_form : List ℕ → Option Form
compare_form (b ∷ c ∷ rest) =
    option_and_then (λ wide. option_map (λ op. forms.Compare op wide) (cmp_of rest)) (wide_of (b ∷ c ∷ []))
compare_form _ = None

abbrev pub long_at : ℕ → Option Bool
long_at b = if b == 119 then Some false else if b == 100 then Some true else None

-- behind CMPI
abbrev pub compare_imm_form : List ℕ → Option Form
compare_imm_form (b ∷ c ∷ d ∷ rest) =
    option_and_then (λ wide. option_and_then (λ long. option_map (λ op. forms.CompareImm op wide long) (cmp_of rest)) (long_at d))
    (wide_of (b ∷ c ∷ []))
compare_imm_form _ = None

-- behind PUSH
abbrev pub push_form : List ℕ → Option Form
push_form s = if bytes_eq s (codes "n") then Some forms.PushNatural else option_map (λ wide. forms.Push wide) (wide_of s)

-- behind POP
abbrev pub pop_form : List ℕ → Option Form
pop_form s = if bytes_eq s (codes "n") then Some forms.PopNatural else option_map (λ wide. forms.Pop wide) (wide_of s)

-- behind a mnemonic that is all upper-case
abbrev pub bare_form : Form → List ℕ → Option Form
bare_form form s = if bytes_eq s [] then Some form else None

abbrev pub arith_form : List ℕ → List ℕ → Option Form
arith_form stem suffix = option_and_then (λ op. option_map (λ wide. forms.Arith op wide) (wide_of suffix)) (arith_of stem)

-- the form of a mnemonic that doesn't move, jump, call or compare
unfoldable pub other_form : List ℕ → List ℕ → Option Form
other_form stem suffix =
    if bytes_eq stem (codes "PUSH") then push_form suffix
    else if bytes_eq stem (codes "POP") then pop_form suffix
    else if bytes_eq stem (codes "RET") then bare_form forms.Ret suffix
    else if bytes_eq stem (codes "BREAK") then bare_form forms.Break suffix
    else if bytes_eq stem (codes "LOADSP") then bare_form forms.LoadSpecial suffix
    else if bytes_eq stem (codes "STORESP") then bare_form forms.StoreSpecial suffix
    else arith_form stem suffix

-- the form of the two parts of a mnemonic
unfoldable pub stem_form : List ℕ → List ℕ → Option Form
stem_form stem suffix =
    if bytes_eq stem (codes "MOV") then move_letters suffix
    else if bytes_eq stem (codes "MOVI") then move_imm_letters suffix
    else if bytes_eq stem (codes "MOVREL") then relative_letter suffix
    else if bytes_eq stem (codes "JMP") then jump_form suffix
    else if bytes_eq stem (codes "CALL") then call_form suffix
    else if bytes_eq stem (codes "CMP") then compare_form suffix
    else if bytes_eq stem (codes "CMPI") then compare_imm_form suffix
    else other_form stem suffix

-- the form that a mnemonic names
unfoldable pub form_of : List ℕ → Option Form
form_of word = stem_form (stem_of word).0 (stem_of word).1
