-- Where a name stands by lines, with one line more.
use Rattle.std.proofs.Common.{◌≡◌, ℕ, List, [], ◌∷◌, ◌++◌, Option, Some, None, Bool, true, false, cond, refl, sym, ap, ◌∙◌, arith}
use Rattle.std.proofs.lemmas.List.Folds.{list_any-append}
use Rattle.std.proofs.lemmas.Slice.Eq.{bytes_eq-Decides}
use Rattle.std.specs.Prelude.{bytes_eq, ◌||◌}
use Rattle.std.specs.List.{list_any}
use Rattle.ebc_base.specs.Tables.{is_named}
use Rattle.asm_text.specs.Lines.{Line}
use Rattle.ebc_asm.specs.declared.names.Standing.{Standing}
use Rattle.ebc_asm.specs.Held.{nowhere, standing_in}
use Rattle.ebc_asm.specs.Pieces.{use_of}
use Rattle.ebc_asm.specs.Symbols.{Ends, Place, and_name, and_names, ends_after, flag, global_of, here, is_labelled, is_some_name}
use Rattle.ebc_asm.specs.Symbols.{makes_global, names_with, place_of, section_kind, start, undefined, used_name}
use Rattle.ebc_asm.proofs.LineLaws.{ends_of, place_at, place_more}
use Rattle.ebc_base.proofs.Truth.{both_false}
use Rattle.std.proofs.lemmas.Bool.{or_parts}

-- ---- the place of a label

unplaced_one : (b : Bool) (rest : Bool) (p q : Place) → (b || rest) ≡ false → (rest ≡ false → q ≡ undefined) → cond b p q ≡ undefined
unplaced_one true rest p q h g = cc h
unplaced_one false rest p q h g = g h

pub unplaced : (e : Ends) (name : List ℕ) (ls : List Line) → list_any (is_labelled name) ls ≡ false → place_of e name ls ≡ undefined
unfolding place_of
unplaced e name [] h = refl
unplaced e name (l ∷ ls) h = unplaced_one (is_labelled name l) (list_any (is_labelled name) ls)
    (record { kind = section_kind e.in_data; offset = here e }) (place_of (ends_after e l) name ls) h
    (λ g. unplaced (ends_after e l) name ls g)

kind_some : (d : Bool) → section_kind d ≡ 0 → ⊥
kind_some true h = absurd (omega (arith, h))
kind_some false h = absurd (omega (arith, h))

placed_one : (b rest d : Bool) (n : ℕ) (q : Place) → (cond b (record { kind = section_kind d; offset = n }) q).kind ≡ 0
    → (q.kind ≡ 0 → rest ≡ false) → (b || rest) ≡ false
placed_one true rest d n q h g = absurd (kind_some d h)
placed_one false rest d n q h g = g h

-- a name that has no place is no label
pub unlabelled : (e : Ends) (name : List ℕ) (ls : List Line) → (place_of e name ls).kind ≡ 0 → list_any (is_labelled name) ls ≡ false
unfolding place_of
unlabelled e name [] h = refl
unlabelled e name (l ∷ ls) h = placed_one (is_labelled name l) (list_any (is_labelled name) ls) e.in_data (here e)
    (place_of (ends_after e l) name ls) h (λ g. unlabelled (ends_after e l) name ls g)

keeps_place : (b : Bool) (p q : Place) → (b ≡ false → p ≡ q) → cond b p q ≡ p
keeps_place true p q h = refl
keeps_place false p q h = sym (h refl)

no_place : (b : Bool) (p : Place) → b ≡ false → cond b p undefined ≡ undefined
no_place b p h = rw h refl

pub place_stays : (ls : List Line) (l : Line) (name : List ℕ) → is_labelled name l ≡ false
    → place_of start name (ls ++ l ∷ []) ≡ place_of start name ls
place_stays ls l name h =
    let none : place_at (ends_of start ls) name l ≡ undefined =
    no_place (is_labelled name l) (record { kind = section_kind (ends_of start ls).in_data; offset = here (ends_of start ls) }) h in
    place_more start name ls l ∙ keeps_place (list_any (is_labelled name) ls) (place_of start name ls) (place_at (ends_of start ls) name l)
    (λ g. unplaced start name ls g ∙ sym none)

-- the label of the line stands where the section ends
pub place_here : (ls : List Line) (l : Line) (name : List ℕ) → is_labelled name l ≡ true → (place_of start name ls).kind ≡ 0
    → place_of start name (ls ++ l ∷ []) ≡ record { kind = section_kind (ends_of start ls).in_data; offset = here (ends_of start ls) }
place_here ls l name h none = place_more start name ls l ∙ rw (unlabelled start name ls none, h) refl

-- ---- with the label of a line, and then with its statement

-- where a name stands by lines and the label of one more
abbrev pub labelled_in : List Line → Line → List ℕ → Standing
labelled_in ls l name = record {
  kind = (place_of start name (ls ++ l ∷ [])).kind;
  global = flag (list_any (makes_global name) ls);
  offset = (place_of start name (ls ++ l ∷ [])).offset;
}

pub label_keeps : (ls : List Line) (l : Line) (name : List ℕ) → is_labelled name l ≡ false → labelled_in ls l name ≡ standing_in ls name
label_keeps ls l name h = ap (λ (p : Place). record { kind = p.kind; global = flag (list_any (makes_global name) ls); offset = p.offset })
    (place_stays ls l name h)

or_none : (a b : Bool) → b ≡ false → (a || (b || false)) ≡ a
or_none true b h = refl
or_none false b h = rw h refl

or_some : (a b : Bool) → b ≡ true → (a || (b || false)) ≡ true
or_some true b h = refl
or_some false b h = rw h refl

pub global_keeps : (ls : List Line) (l : Line) (name : List ℕ) → makes_global name l ≡ false
    → standing_in (ls ++ l ∷ []) name ≡ labelled_in ls l name
global_keeps ls l name h =
    let same : list_any (makes_global name) (ls ++ l ∷ []) ≡ list_any (makes_global name) ls =
    list_any-append (makes_global name) ls (l ∷ []) ∙ or_none (list_any (makes_global name) ls) (makes_global name l) h in
    ap (λ b. record {
      kind = (place_of start name (ls ++ l ∷ [])).kind;
      global = flag b;
      offset = (place_of start name (ls ++ l ∷ [])).offset;
    }) same

pub global_here : (ls : List Line) (l : Line) (name : List ℕ) → makes_global name l ≡ true
    → standing_in (ls ++ l ∷ []) name ≡ record (labelled_in ls l name) { global = 1 }
global_here ls l name h =
    let some : list_any (makes_global name) (ls ++ l ∷ []) ≡ true = list_any-append (makes_global name) ls (l ∷ [])
    ∙ or_some (list_any (makes_global name) ls) (makes_global name l) h in
    ap (λ b. record {
      kind = (place_of start name (ls ++ l ∷ [])).kind;
      global = flag b;
      offset = (place_of start name (ls ++ l ∷ [])).offset;
    }) some

-- ---- names that no line has

other_name : (n name : List ℕ) (ns : List (List ℕ)) (b : Bool) → bytes_eq name n ≡ b → is_named n ns ≡ true → is_named name ns ≡ false
    → b ≡ false
other_name n name ns true e there new =
    let is : name ≡ n = (bytes_eq-Decides name n).0 e in
    let gone : is_named n ns ≡ false = rw (← is) new in
    cc (gone, there)
other_name n name ns false e there new = refl

not_with : (n name : List ℕ) (ns : List (List ℕ)) (b : Bool) → is_named n ns ≡ b → is_named name (cond b ns (ns ++ n ∷ [])) ≡ false
    → (bytes_eq name n ≡ false) × (is_named name ns ≡ false)
not_with n name ns true e h = (other_name n name ns (bytes_eq name n) refl e h, h)
not_with n name ns false e h =
    let p = or_parts (is_named name ns) (bytes_eq name n || false) (sym (list_any-append (bytes_eq name) ns (n ∷ [])) ∙ h) in
    let q = or_parts (bytes_eq name n) false p.1 in
    (q.0, p.0)

pub not_name : (o : Option (List ℕ)) (name : List ℕ) (ns : List (List ℕ)) → is_named name (and_name o ns) ≡ false
    → (is_some_name name o ≡ false) × (is_named name ns ≡ false)
not_name None name ns h = (refl, h)
not_name (Some n) name ns h = not_with n name ns (is_named n ns) refl h

not_names : (l : Line) (name : List ℕ) (ns : List (List ℕ)) → is_named name (and_names l ns) ≡ false → (is_labelled name l ≡ false)
    × (makes_global name l ≡ false) × (is_named name ns ≡ false)
not_names l name ns h =
    let u = not_name (used_name (use_of l.statement)) name (and_name (global_of l.statement) (and_name l.label ns)) h in
    let g = not_name (global_of l.statement) name (and_name l.label ns) u.1 in
    let b = not_name l.label name ns g.1 in
    (b.0, g.0, b.1)

not_lines : (name : List ℕ) (ns : List (List ℕ)) (ls : List Line) → is_named name (names_with ns ls) ≡ false
    → (list_any (is_labelled name) ls ≡ false) × (list_any (makes_global name) ls ≡ false) × (is_named name ns ≡ false)
unfolding names_with
not_lines name ns [] h = (refl, refl, h)
not_lines name ns (l ∷ ls) h =
    let r = not_lines name (and_names l ns) ls h in
    let f = not_names l name ns r.2 in (
      both_false (is_labelled name l) (list_any (is_labelled name) ls) f.0 r.0,
      both_false (makes_global name l) (list_any (makes_global name) ls) f.1 r.1,
      f.2,
    )

-- a name that is none of the names of lines stands nowhere
pub nowhere_yet : (name : List ℕ) (ls : List Line) → is_named name (names_with [] ls) ≡ false → standing_in ls name ≡ nowhere
nowhere_yet name ls h =
    let n = not_lines name [] ls h in
    rw (unplaced start name ls n.0, n.1) refl
