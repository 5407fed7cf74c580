-- Readings one after the other.
use Rattle.std.proofs.Common.{◌≡◌, ℕ, List, ◌++◌, Option, Some, None, IfSome, Result, Ok, Err, refl, sym, ap, ◌∙◌, append_assoc, append-nil}
use Rattle.ebc_outside.specs.Files.{Files}
use Rattle.cli_base.specs.declared.reply.End.{End}
use Rattle.cli_base.specs.declared.reply.Reply.{Reply}
use Rattle.cli_base.specs.declared.reply.End.TheVariants as ends
use Rattle.cli_base.specs.Readings.{FileReading, ◌>>=◌, go_on, done, AsksPart, Follows}

-- what a second reading asked for comes after what the first one did
pub later-part : (before mid now one all : List (List ℕ)) → mid ≡ before ++ one → AsksPart mid all now → AsksPart before (one ++ all) now
later-part before mid now one all led part = record {
  first = one ++ part.first;
  others = part.others;
  whole = ap (λ names. one ++ names) part.whole ∙ sym (append_assoc one part.first part.others);
  asked = part.asked ∙ ap (λ names. names ++ part.first) led ∙ append_assoc before one part.first;
}

-- a reading that ends after one that went through ends both
pub ends-after : {A B : Type 0} (before mid now : List (List ℕ)) (run : FileReading A) (f : A → FileReading B) (x : A) (end : End)
    → Follows before mid (Ok x) run → Follows {A = B} mid now (Err end) (f x) → Follows {A = B} before now (Err end) (run >>= f)
ends-after before mid now run f x (ends.Stop reply) one two = rw one.0
    (two.0, two.1 ∙ ap (λ names. names ++ (f x).asked) one.1 ∙ append_assoc before run.asked (f x).asked)
ends-after before mid now run f x ends.ReadFault one two = rw one.0 (later-part before mid now run.asked (f x).asked one.1 two)
ends-after before mid now run f x ends.NoMemory one two = rw one.0 (later-part before mid now run.asked (f x).asked one.1 two)

-- what was asked for is a first part of what a reading and more ask for
wider-part : {A B : Type 0} (before asked now : List (List ℕ)) (v : Result A Reply) (f : A → FileReading B) → AsksPart before asked now
    → AsksPart before (go_on asked v f).asked now
wider-part before asked now (Ok x) f part = record {
  first = part.first;
  others = part.others ++ (f x).asked;
  whole = ap (λ names. names ++ (f x).asked) part.whole ∙ append_assoc part.first part.others (f x).asked;
  asked = part.asked;
}
wider-part before asked now (Err reply) f part = part

-- a reading that ends ends those after it
pub ends-before : {A B : Type 0} (before now : List (List ℕ)) (run : FileReading A) (f : A → FileReading B) (end : End)
    → Follows {A = A} before now (Err end) run → Follows {A = B} before now (Err end) (run >>= f)
ends-before before now run f (ends.Stop reply) one = rw one.0 (refl, one.1)
ends-before before now run f ends.ReadFault one = wider-part before run.asked now run.value f one
ends-before before now run f ends.NoMemory one = wider-part before run.asked now run.value f one

-- ---- readings of told files

-- where the first reading ends, it ends the whole
pub first-ends : {A B : Type 0} (old : Option Files) (before now : List (List ℕ)) (run : Files → FileReading A)
    (f : Files → A → FileReading B) (end : End) → IfSome old (λ files. Follows {A = A} before now (Err end) (run files))
    → IfSome old (λ files. Follows {A = B} before now (Err end) (run files >>= f files))
first-ends None before now run f end one = tt
first-ends (Some files) before now run f end one = ends-before before now (run files) (f files) end one

-- what comes of a reading that went through and of what follows it comes of the whole
pub next-follows : {A B : Type 0} (old mid : Option Files) (before between now : List (List ℕ)) (run : Files → FileReading A)
    (f : Files → A → FileReading B) (x : A) (result : Result B End) → mid ≡ old
    → IfSome old (λ files. Follows before between (Ok x) (run files))
    → IfSome mid (λ files. Follows between now result (f files x))
    → IfSome old (λ files. Follows before now result (run files >>= f files))
next-follows None mid before between now run f x result same one two = tt
next-follows (Some files) mid before between now run f x (Err end) same one two =
    ends-after before between now (run files) (f files) x end one (rw same at two)
next-follows (Some files) mid before between now run f x (Ok y) same one two =
    let then : Follows between now (Ok y) (f files x) = rw same at two in
    rw one.0
    (then.0, then.1 ∙ ap (λ names. names ++ (f files x).asked) one.1 ∙ append_assoc before (run files).asked (f files x).asked)

-- what is made of what a reading gave comes of it
pub made-follows : {A B : Type 0} (old : Option Files) (before now : List (List ℕ)) (run : Files → FileReading A) (make : A → B) (x : A)
    → IfSome old (λ files. Follows before now (Ok x) (run files))
    → IfSome old (λ files. Follows before now (Ok (make x)) (run files >>= (λ y. done (make y))))
made-follows None before now run make x one = tt
made-follows (Some files) before now run make x one =
    rw one.0 (refl, one.1 ∙ ap (λ names. before ++ names) (sym (append-nil (run files).asked)))
