-- The place that a text names, and a table with it at a key.
use Rattle.note_filling.proofs.Common.{◌≡◌, ℕ, ◌+◌, Bool, true, false, List, Option, Some, None, refl, sym, ap, ◌∙◌, subst, Result, Ok, Err}
use Rattle.note_filling.proofs.Common.{option_and_then, ◌>>=◌, TomlFault, Data, string, integer, float, boolean, datetime, array, table}
use Rattle.note_filling.proofs.Common.{Members, get_member, as_str, IsPlacedAs, put_member, labelled_place, IsReplaced}
use Rattle.std.proofs.Common.{pos, not}
use Rattle.std.specs.Prelude.{nat_eq, ◌&&◌}
use Rattle.ebc_base.specs.Steps.{or_else, passes}
use Rattle.label_places.specs.{References.LabelReference, References.reference_of, Sought.behind, Sought.place_by, Sought.position_of}
use Rattle.label_places.specs.declared.{label.Label.Label, label.Position.Position, seeking.NotFound.NotFound}
use Rattle.label_places.specs.declared.seeking.NotFound.TheVariants.{Unknown, Several}
use Rattle.note_filling.specs.{Places.flawed, Places.found_position, Places.placed_by, Places.placed_in, Places.told_at, Views.put_place}
use Rattle.note_filling.specs.declared.label.{LabelFault.LabelFault, Placed.Placed}
use Rattle.note_filling.proofs.MemberLaws.{get-put, get-put_other}
use Rattle.note_filling.specs.declared.label.LabelFault.TheVariants as faults

-- ---- the place that a text names

by_test : (b : Bool) (position : Position) (addend : ℕ) (p : Placed)
    → (passes b faults.Data >>= (λ _. Ok (record { position = position; place = position.place + addend }))) ≡ Ok p
    → Some (position.place + addend) ≡ Some p.place
by_test true position addend p e =
    let q : Placed = record { position = position; place = position.place + addend } in
    let same : q ≡ p = cc in
    ap (λ (s : Placed). Some s.place) same
by_test false position addend p e = absurd cc

by_position : (code : Bool) (addend : ℕ) (p : Placed) (found : Result Position NotFound)
    → (found_position found >>= (λ position. passes (not (code && nat_eq position.section 2)) faults.Data
    >>= (λ _. Ok (record { position = position; place = position.place + addend })))) ≡ Ok p
    → behind addend found ≡ Some p.place
by_position code addend p (Ok position) e = by_test (not (code && nat_eq position.section 2)) position addend p e
by_position code addend p (Err Unknown) e = absurd cc
by_position code addend p (Err Several) e = absurd cc

by_reference : (code : Bool) (names : List (List ℕ)) (labels : List Label) (p : Placed) (o : Option LabelReference)
    → (or_else faults.Form o >>= (λ (r : LabelReference). found_position (position_of names labels r)
    >>= (λ position. passes (not (code && nat_eq position.section 2)) faults.Data
    >>= (λ _. Ok (record { position = position; place = position.place + r.addend }))))) ≡ Ok p
    → option_and_then (λ (r : LabelReference). behind r.addend (position_of names labels r)) o ≡ Some p.place
by_reference code names labels p None e = absurd cc
by_reference code names labels p (Some r) e = by_position code r.addend p (position_of names labels r) e

place-placed : (code : Bool) (names : List (List ℕ)) (labels : List Label) (text : List ℕ) (p : Placed)
    → placed_by code names labels text ≡ Ok p → place_by names labels text ≡ Some p.place
unfolding placed_by place_by
place-placed code names labels text p e = by_reference code names labels p (reference_of text) e

by_reading : (names : List (List ℕ)) (labels : List Label) (code : Bool) (path text : List ℕ) (p : Placed) (read : Result Placed LabelFault)
    → placed_by code names labels text ≡ read → (flawed text (told_at path read) >>= (λ q. Ok (Some q))) ≡ Ok (Some p)
    → place_by names labels text ≡ Some p.place
by_reading names labels code path text p (Ok q) is e =
    let same : q ≡ p = cc in place-placed code names labels text p (is ∙ ap Ok same)
by_reading names labels code path text p (Err fault) is e = absurd cc

pub placed-some : (code : Bool) (names : List (List ℕ)) (labels : List Label) (path : List ℕ) (t : Option (List ℕ)) (p : Placed)
    → labelled_place code names labels path t ≡ Ok (Some p)
    → (text : List ℕ) × ((t ≡ Some text) × (place_by names labels text ≡ Some p.place))
unfolding placed_in
placed-some code names labels path None p e = absurd cc
placed-some code names labels path (Some text) p e =
    (text, (refl, by_reading names labels code path text p (placed_by code names labels text) refl e))

nothing_read : (text : List ℕ) (read : Result Placed TomlFault) → (flawed text read >>= (λ q. Ok (Some q))) ≡ Ok None → ⊥
nothing_read text (Ok q) e = cc
nothing_read text (Err fault) e = cc

pub placed-none : (code : Bool) (names : List (List ℕ)) (labels : List Label) (path : List ℕ) (t : Option (List ℕ))
    → labelled_place code names labels path t ≡ Ok None → t ≡ None
placed-none code names labels path None e = refl
placed-none code names labels path (Some text) e = absurd (nothing_read text (placed_in code names labels path text) e)

-- ---- a table with a place at a key

text_is : (place : List ℕ → Option ℕ) (d : Data) (text : List ℕ) (p : ℕ) → place text ≡ Some p → as_str d ≡ Some text
    → IsPlacedAs place d (integer (pos p))
text_is place (string s) text p named is = let same : s ≡ text = cc in (p, (ap place same ∙ named, refl))
text_is place (integer z) text p named is = absurd cc
text_is place (float x) text p named is = absurd cc
text_is place (boolean b) text p named is = absurd cc
text_is place (datetime dt) text p named is = absurd cc
text_is place (array ds) text p named is = absurd cc
text_is place (table ms) text p named is = absurd cc

pub replaced-some : (place : List ℕ → Option ℕ) (key text : List ℕ) (p : ℕ) (old new : Members) → place text ≡ Some p
    → ((d : Data) → get_member key old ≡ Some d → as_str d ≡ Some text) → new ≡ put_member key (integer (pos p)) old
    → IsReplaced place key old new
replaced-some place key text p old new named texts put = record {
  here = λ d there. (integer (pos p), (ap (get_member key) put ∙ get-put key _ old, text_is place d text p named (texts d there)));
  elsewhere = λ other apart. ap (get_member other) put ∙ get-put_other other key _ old apart;
}

no_text : (place : List ℕ → Option ℕ) (d : Data) → as_str d ≡ None → IsPlacedAs place d d
no_text place (string s) none = absurd cc
no_text place (integer z) none = refl
no_text place (float x) none = refl
no_text place (boolean b) none = refl
no_text place (datetime dt) none = refl
no_text place (array ds) none = refl
no_text place (table ms) none = refl

pub replaced-none : (place : List ℕ → Option ℕ) (key : List ℕ) (old : Members)
    → ((d : Data) → get_member key old ≡ Some d → as_str d ≡ None) → IsReplaced place key old old
replaced-none place key old texts = record {
  here = λ d there. (d, (there, no_text place d (texts d there)));
  elsewhere = λ other apart. refl;
}

-- what a text names is put there
pub replaced_by : (code : Bool) (names : List (List ℕ)) (labels : List Label) (path key : List ℕ) (t : Option (List ℕ)) (placed : Option
    Placed)
    (old new : Members) → labelled_place code names labels path t ≡ Ok placed → ((d : Data) → get_member key old ≡ Some d → as_str d ≡ t)
    → new ≡ put_place key placed old → IsReplaced (place_by names labels) key old new
replaced_by code names labels path key t (Some p) old new read texts put =
    let found = placed-some code names labels path t p read in
    replaced-some (place_by names labels) key found.0 p.place old new found.1.1 (λ d there. texts d there ∙ found.1.0) put
replaced_by code names labels path key t None old new read texts put =
    subst (IsReplaced (place_by names labels) key old) (sym put)
    (replaced-none (place_by names labels) key old (λ d there. texts d there ∙ placed-none code names labels path t read))
