-- A line that is taken behind others: its label, what it makes global, and the name that it uses.
use Rattle.std.proofs.Common.{◌≡◌, ℕ, List, [], ◌∷◌, ◌++◌, map, Option, Some, None, Ok, Err, Bool, true, false, refl, sym, ap, ◌∙◌}
use Rattle.std.specs.Prelude.{◌≢◌, not}
use Rattle.std.specs.List.{list_any}
use Rattle.ebc_base.specs.Tables.{is_named}
use Rattle.asm_text.specs.Lines.{Line}
use Rattle.asm_text.specs.declared.fault.AsmFault.{AsmFault}
use Rattle.asm_text.specs.declared.fault.AsmFault.TheVariants as faults
use Rattle.ebc_asm.specs.declared.end.LineEnd.TheVariants as ends
use Rattle.ebc_asm.specs.declared.names.Standing.{Standing}
use Rattle.ebc_asm.specs.Held.{Labels, and_global_place, and_used_place, nowhere, standing_in}
use Rattle.ebc_asm.specs.Pieces.{Use, use_of}
use Rattle.ebc_asm.specs.Sources.{label_is_new}
use Rattle.ebc_asm.specs.Symbols.{and_name, and_names, global_of, here, is_labelled, makes_global, names_with, place_of, section_kind}
use Rattle.ebc_asm.specs.Symbols.{start}
use Rattle.ebc_asm.proofs.LineLaws.{ends_of}
use Rattle.ebc_asm.proofs.StateLaws.{Apart, Knows, KnowsUse, added_names, and_names_is, named_still, used_is_there}
use Rattle.ebc_asm.proofs.PlaceLaws.{apart_name, apart_names, places_with, standing_is}
use Rattle.ebc_asm.proofs.StandingLaws.{global_keeps, label_keeps, labelled_in, not_name, nowhere_yet, unlabelled, unplaced}
use Rattle.ebc_asm.proofs.NameSteps.{defined, made_global}

-- ---- the names of lines

-- none stands twice
pub apart_in : (ns : List (List ℕ)) (ls : List Line) → Apart ns → Apart (names_with ns ls)
unfolding names_with
apart_in ns [] h = h
apart_in ns (l ∷ ls) h = apart_in (and_names l ns) ls (apart_names l ns h)

pub kept_in : (n : List ℕ) (ns : List (List ℕ)) (ls : List Line) → is_named n ns ≡ true → is_named n (names_with ns ls) ≡ true
unfolding names_with
kept_in n ns [] h = h
kept_in n ns (l ∷ ls) h = kept_in n (and_names l ns) ls (rw (and_names_is l ns) (named_still n ns (added_names l ns) h))

known_use : (u : Option Use) (ns : List (List ℕ)) (ls : List Line) → KnowsUse ns u → KnowsUse (names_with ns ls) u
known_use None ns ls h = tt
known_use (Some u) ns ls h = kept_in u.name ns ls h

-- the names that they use are among them
pub known_in : (ns : List (List ℕ)) (ls : List Line) → Knows (names_with ns ls) ls
unfolding names_with
known_in ns [] = tt
known_in ns (l ∷ ls) = (
  known_use (use_of l.statement) (and_names l ns) ls
      (used_is_there (use_of l.statement) (and_name (global_of l.statement) (and_name l.label ns))),
  known_in (and_names l ns) ls,
)

map_all : {A : Type 0} (f g : List ℕ → A) (ns : List (List ℕ)) → ((m : List ℕ) → f m ≡ g m) → map f ns ≡ map g ns
map_all f g [] same = refl
map_all f g (n ∷ ns) same = rw (same n, map_all f g ns same) refl

-- ---- the label

not_labelled : (l : Line) (m : List ℕ) → l.label ≡ None → is_labelled m l ≡ false
not_labelled l m e = rw e refl

-- a label that was taken is new, and stands where its section ends
pub label_taken : (ls : List Line) (l : Line) (o : Option (List ℕ)) (after : List Standing) → l.label ≡ o
    → Labels (Ok tt) o (section_kind (ends_of start ls).in_data) (here (ends_of start ls)) (names_with [] ls)
    (map (standing_in ls) (names_with [] ls)) after
    → (label_is_new ls o ≡ true) × (after ≡ map (labelled_in ls l) (and_name o (names_with [] ls)))
label_taken ls l None after e h =
    (refl, h.1 ∙ map_all (standing_in ls) (labelled_in ls l) (names_with [] ls) (λ m. sym (label_keeps ls l m (not_labelled l m e))))
label_taken ls l (Some name) after e h =
    let s = standing_is (standing_in ls) name (names_with [] ls) (nowhere_yet name ls) in
    let none : (place_of start name ls).kind ≡ 0 = sym (ap (λ (t : Standing). t.kind) s) ∙ h.0 in
    let new : list_any (is_labelled name) ls ≡ false = unlabelled start name ls none in
    (rw new refl, h.1 ∙ defined ls l name (names_with [] ls) e (apart_in [] ls tt) (nowhere_yet name ls) h.0)

labelled_once : (ls : List Line) (name : List ℕ) (b : Bool) → list_any (is_labelled name) ls ≡ b → (place_of start name ls).kind ≢ 0
    → not b ≡ false
labelled_once ls name true e h = refl
labelled_once ls name false e h = absurd (h (rw (unplaced start name ls e) refl))

-- one that wasn't is that of a line before
pub label_refused : (ls : List Line) (o : Option (List ℕ)) (f : AsmFault) (k n : ℕ) (after : List Standing)
    → Labels (Err (ends.Fault f)) o k n (names_with [] ls) (map (standing_in ls) (names_with [] ls)) after
    → (f ≡ faults.Twice) × (label_is_new ls o ≡ false)
label_refused ls None f k n after h = absurd (cc h.0)
label_refused ls (Some name) f k n after h =
    let s = standing_is (standing_in ls) name (names_with [] ls) (nowhere_yet name ls) in
    (h.0, labelled_once ls name (list_any (is_labelled name) ls) refl (λ e. h.1 (ap (λ (t : Standing). t.kind) s ∙ e)))

-- ---- the name that it makes global

unlabelled_nowhere : (ls : List Line) (l : Line) (name : List ℕ) → is_named name (and_name l.label (names_with [] ls)) ≡ false
    → labelled_in ls l name ≡ nowhere
unlabelled_nowhere ls l name h =
    let p = not_name l.label name (names_with [] ls) h in
    label_keeps ls l name p.0 ∙ nowhere_yet name ls p.1

not_global : (l : Line) (m : List ℕ) → global_of l.statement ≡ None → makes_global m l ≡ false
not_global l m e = rw e refl

pub global_taken : (ls : List Line) (l : Line) (o : Option (List ℕ)) → global_of l.statement ≡ o
    → and_global_place o (and_name l.label (names_with [] ls)) (map (labelled_in ls l) (and_name l.label (names_with [] ls)))
    ≡ map (standing_in (ls ++ l ∷ [])) (and_name o (and_name l.label (names_with [] ls)))
global_taken ls l None e =
    map_all (labelled_in ls l) (standing_in (ls ++ l ∷ [])) (and_name l.label (names_with [] ls))
    (λ m. sym (global_keeps ls l m (not_global l m e)))
global_taken ls l (Some name) e =
    made_global ls l name (and_name l.label (names_with [] ls)) e (apart_name l.label (names_with [] ls) (apart_in [] ls tt))
    (unlabelled_nowhere ls l name)

-- ---- the name that it uses

pub use_taken : (ls : List Line) (l : Line) (o : Option (List ℕ))
    → and_used_place o (and_name (global_of l.statement) (and_name l.label (names_with [] ls)))
    (map (standing_in (ls ++ l ∷ [])) (and_name (global_of l.statement) (and_name l.label (names_with [] ls))))
    ≡ map (standing_in (ls ++ l ∷ [])) (and_name o (and_name (global_of l.statement) (and_name l.label (names_with [] ls))))
use_taken ls l None = refl
use_taken ls l (Some name) =
    places_with (standing_in (ls ++ l ∷ [])) name (and_name (global_of l.statement) (and_name l.label (names_with [] ls)))
    (λ h. let g = not_name (global_of l.statement) name (and_name l.label (names_with [] ls)) h in global_keeps ls l name g.0
    ∙ unlabelled_nowhere ls l name g.1)
