-- What the first relocation that reaches behind a place, and the first label behind it, tell of what is listed there.
use Rattle.std.proofs.Common.{◌≡◌, ℕ, ◌+◌, ◌<◌, ◌≤◌, Bool, true, false, List, Option, Some, None, refl, ap, sym, ◌∙◌, ⊎_elim, arith, Ok}
use Rattle.std.specs.Prelude.{◌&&◌, ◌||◌, not, is_some, nat_eq, nat_lt, option_map, if◌then◌else◌}
use Rattle.std.specs.List.{AllPairs, list_all, list_any}
use Rattle.std.specs.Option.{option_and_then}
use Rattle.std.proofs.lemmas.Bool.{cases_Bool}
use Rattle.std.proofs.lemmas.Bool.Decides.{nat_tests}
use Rattle.ebc_insn.specs.declared.Insn.{Insn}
use Rattle.pe_image.specs.declared.image.Image.{Image}
use Rattle.pe_image.specs.Images.{IsBelow, IsImage}
use Rattle.ebc_disasm.specs.declared.items.Spot.{Spot}
use Rattle.ebc_disasm.specs.Listings.{if_whole, is_of_immediate, is_whole, label_before, lies_on, named, takes_label, with_label}
use Rattle.ebc_disasm.specs.Walks.{IsSpot, is_at, is_before, label_in, labelled, passes_before, reaches}
use Rattle.ebc_disasm.proofs.Firsts.{find-none, find-other, first_at, first_before, first_passes}

-- relocations ascend
up : (xs : List ℕ) → AllPairs IsBelow xs → AllPairs (λ a b. a ≤ b) xs
up xs apart i j d less short = let h = apart i j d less short in omega arith

-- A place is relocated where the first relocation that reaches behind it is there.
pub reloc_at : (image : Image) (spot : Spot) → IsImage image → IsSpot image spot
    → list_any (nat_eq spot.place) image.relocs ≡ is_at spot.place spot.reloc
reloc_at image spot is s =
    first_at IsBelow (reaches 8 spot.place) spot.place image.relocs is.apart
    (λ r h. grind (arith, nat_tests))
    (λ q r h other below. grind (arith, nat_tests))
    ∙ ap (is_at spot.place) (sym s.reloc)

-- A relocation lies on some bytes, where that one begins before their end.
pub reloc_on : (image : Image) (spot : Spot) (n : ℕ) → IsImage image → IsSpot image spot
    → list_any (lies_on spot.place n) image.relocs ≡ is_before (spot.place + n) spot.reloc
reloc_on image spot n is s =
    first_before (reaches 8 spot.place) (spot.place + n) image.relocs (up image.relocs is.apart)
    ∙ ap (is_before (spot.place + n)) (sym s.reloc)

second : (a b c : Bool) → (a && b && c) ≡ true → b ≡ true
second true true c h = refl
second true false c h = h
second false b c h = cc

-- a relocation of an immediate ends with it
ends_there : (image : Image) (i : Insn) (next r : ℕ) → is_of_immediate image i next r ≡ true → r + 8 ≡ next
ends_there image i next r h =
    let b : nat_eq (r + 8) next ≡ true = second (takes_label i) (nat_eq (r + 8) next) (is_some (named image r)) h in
    grind (arith, nat_tests)

-- Relocations on an instruction are of its immediate, where that one is or begins behind it.
pub reloc_own :
    (image : Image) (spot : Spot) (i : Insn) (n : ℕ) → IsImage image → IsSpot image spot →
    list_all (λ r. not (lies_on spot.place n r) || is_of_immediate image i (spot.place + n) r) image.relocs
    ≡ passes_before (is_of_immediate image i (spot.place + n)) (spot.place + n) spot.reloc
reloc_own image spot i n is s =
    first_passes (reaches 8 spot.place) (is_of_immediate image i (spot.place + n)) (spot.place + n) image.relocs is.apart
    (λ r h. ends_there image i (spot.place + n) r h)
    ∙ ap (passes_before (is_of_immediate image i (spot.place + n)) (spot.place + n)) (sym s.reloc)

-- a relocation that ends behind a place reaches behind it
reaches_end : (x n a : ℕ) → 0 < n → reaches 8 x a ≡ false → nat_eq (a + 8) (x + n) ≡ false
reaches_end x n a some h = grind (arith, nat_tests)

before_end : (x n a : ℕ) → 0 < n → nat_eq (a + 8) (x + n) ≡ true → (reaches 8 x a && nat_lt a (x + n)) ≡ true
before_end x n a some h = grind (arith, nat_tests)

-- Where none lies on an instruction none ends with it.
pub no_label :
    (image : Image) (spot : Spot) (n : ℕ) → IsImage image → IsSpot image spot → 0 < n →
    is_before (spot.place + n) spot.reloc ≡ false → label_before image (spot.place + n) ≡ None
unfolding label_before
no_label image spot n is s some past =
    ap (option_and_then (named image))
    (find-none (λ r. reaches 8 spot.place r && nat_lt r (spot.place + n)) (λ r. nat_eq (r + 8) (spot.place + n)) image.relocs
    (λ a h. before_end spot.place n a some h) (reloc_on image spot n is s ∙ past))

-- Where the first ends with an instruction it is the one that does.
pub its_label :
    (image : Image) (spot : Spot) (n r : ℕ) → IsSpot image spot → 0 < n → spot.reloc ≡ Some r → r + 8 ≡ spot.place + n →
    label_before image (spot.place + n) ≡ named image r
unfolding label_before
its_label image spot n r s some at ends =
    ap (option_and_then (named image))
    (find-other (reaches 8 spot.place) (λ a. nat_eq (a + 8) (spot.place + n)) image.relocs r
    (λ a h. reaches_end spot.place n a some h) (sym s.reloc ∙ at) (grind (arith, nat_tests)))

-- by tests: whether the first relocation begins before the end, whether the instruction takes a label, whether it ends there
by_tests :
    (i : Insn) (n : ℕ) (lies takes ends : Bool) (target label : Option ℕ) → (lies ≡ false → label ≡ None) →
    (lies ≡ true → ends ≡ true → label ≡ target) →
    (if not lies || (takes && ends && is_some target) then Some (with_label i label, n) else None)
    ≡ labelled i n (if lies then (if takes && ends then option_map Some target else None) else Some None)
by_tests i n false takes ends target label none its = rw (none refl) refl
by_tests i n true true true None label none its = refl
by_tests i n true true true (Some t) label none its = rw (its refl refl) refl
by_tests i n true true false target label none its = refl
by_tests i n true false ends target label none its = refl

-- what is listed of an instruction in which no label lies, by the first relocation
uncut :
    (image : Image) (i : Insn) (n end : ℕ) (reloc : Option ℕ) → (is_before end reloc ≡ false → label_before image end ≡ None) →
    ((r : ℕ) → reloc ≡ Some r → r + 8 ≡ end → label_before image end ≡ named image r) →
    (if passes_before (is_of_immediate image i end) end reloc then Some (with_label i (label_before image end), n) else None)
    ≡ labelled i n (label_in image i end reloc)
uncut image i n end None none its = rw (none refl) refl
uncut image i n end (Some r) none its =
    by_tests i n (nat_lt r end) (takes_label i) (nat_eq (r + 8) end) (named image r) (label_before image end) none
    (λ h k. let ends : r + 8 ≡ end = grind (arith, nat_tests) in its r refl ends)

-- What is listed of an instruction, by the first relocation and the first label.
pub insn_by :
    (image : Image) (spot : Spot) (i : Insn) (n : ℕ) → IsImage image → IsSpot image spot → 0 < n →
    if_whole image spot.place (Ok (i, n))
    ≡ (if is_before (spot.place + n) spot.label then None else labelled i n (label_in image i (spot.place + n) spot.reloc))
unfolding is_whole
insn_by image spot i n is s some =
    rw (s.label n, reloc_own image spot i n is s)
    (⊎_elim
    (λ h. rw h refl)
    (λ h. rw h (uncut image i n (spot.place + n) spot.reloc (no_label image spot n is s some)
    (λ r at ends. its_label image spot n r s some at ends)))
    (cases_Bool (is_before (spot.place + n) spot.label)))
