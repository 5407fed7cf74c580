-- Values that cross from a side to the other: arguments of bound calls, as a width reads them, and results.
use Rattle.pair_laws.proofs.Common.{◌≡◌, ℕ, zero, suc, ◌+◌, ◌-◌, ◌*◌, ◌<◌, ◌^◌, Bool, true, false, ◌&&◌, if◌then◌else◌, nat_eq, nat_le}
use Rattle.pair_laws.proofs.Common.{nat_lt, List, [], ◌∷◌, map, length, Option, Some, None, option_map, refl, sym, ap, ◌∙◌, subst, arith}
use Rattle.pair_laws.proofs.Common.{slice_get, AllByRecursion, list_all, zip, and_parts, false≢true, ltb-true, leb-true, none-some}
use Rattle.pair_laws.proofs.Common.{same_Some, ValuesFit, divides, same_kind, IsHandedIn, Notes, Param, Want, WantParam, Seen, Ty, Value}
use Rattle.pair_laws.proofs.Common.{neutral_result, Placement, arguments_read, slots_from, sort_of_type, fits, given, is_handle, Neutral}
use Rattle.pair_laws.proofs.Common.{IsValue, TypedObject, takes_alike, param_agrees, parameter_refused}
use Rattle.std.proofs.Common.{◌/◌, ◌%◌}
use Rattle.std.specs.Bool.{⊤}
use Rattle.host_laws.proofs.ViewAlike.{before_some}
use Rattle.note_types.specs.{Concrete.Concrete, Concrete.loaded, Passing.IsHandedBack, Records.Each}
use Rattle.ebc_width.specs.Width.{cut_at}
use Rattle.neutral_machine.specs.NeutralReadings.{neutral_reading}
use Rattle.host_model.specs.Readings.{thing_at, handle_named, or_wild, or_null, status_read, reading_of, role_of, argument_read, Number}
use Rattle.host_model.specs.{Placements.slot_bytes, Placements.area_step, Placements.handle_count, Placements.handle_at, Readings.StatusOf}
use Rattle.host_model.specs.Values.{Num, Error, word, error_bit}
use Rattle.pair_laws.proofs.Crossing.{status_known}
use Rattle.note_types.specs.declared.ending.Ending.TheVariants as ending
use Rattle.note_types.specs.declared.notes.Want.TheVariants as want
use Rattle.note_types.specs.declared.reason.Reason.TheVariants as reason
use Rattle.note_types.specs.declared.types.Ty.TheVariants as ty
use Rattle.note_types.specs.declared.value.Value.TheVariants as value

-- ---- results

-- a value that isn't a handle
abbrev pub NoHandle : Value → Type 0
NoHandle (value.Handle k) = ⊥
NoHandle _ = ⊤

number_plain : (notes : Notes) (made : List TypedObject) (u : Neutral) (v : Value) → neutral_result notes made Number u ≡ Some v
    → NoHandle v
unfolding neutral_result neutral_reading
number_plain notes made (Num n c) v e = go (nat_lt (word c) (2 ^ 32)) (nat_eq n 0) e
  where
    go : (s t : Bool) → (if s then (if t then Some (value.Int (word c)) else None) else None) ≡ Some v → NoHandle v
    go true true e = subst NoHandle (same_Some _ v e) tt
    go true false e = absurd (none-some v e)
    go false t e = absurd (none-some v e)
number_plain notes made u v e = absurd (none-some v e)

status_plain : (notes : Notes) (made : List TypedObject) (u : Neutral) (v : Value) → neutral_result notes made StatusOf u ≡ Some v
    → NoHandle v
unfolding neutral_result neutral_reading
status_plain notes made (Num n c) v e = go (nat_eq n 0 && nat_lt (word c) (2 ^ 31)) e
  where
    go : (t : Bool) → (if t then Some (value.StatusOk (word c)) else None) ≡ Some v → NoHandle v
    go true e = subst NoHandle (same_Some _ v e) tt
    go false e = absurd (none-some v e)
status_plain notes made (Error k) v e = subst NoHandle (same_Some _ v e) tt
status_plain notes made u v e = absurd (none-some v e)

-- the result of a function that the firmware may enter is no handle
pub result_plain : (notes : Notes) (made : List TypedObject) (t : Ty) (u : Neutral) (v : Value) → IsHandedBack t
    → neutral_result notes made (sort_of_type t) u ≡ Some v → NoHandle v
unfolding neutral_result neutral_reading
result_plain notes made ty.Any u v b e = subst NoHandle (same_Some _ v e) tt
result_plain notes made (ty.Int lo hi div) u v b e = number_plain notes made u v e
result_plain notes made (ty.Status g) u v b e = status_plain notes made u v e
result_plain notes made t u v b e = absurd b

-- ---- arguments

thing_within : (first count x k : ℕ) → thing_at first count x ≡ Some k → k < count
thing_within first count x k e = go (nat_le first x && (nat_lt (x - first) (area_step * count) && nat_eq
    ((x - first) % area_step) 0)) refl e
  where
    go : (t : Bool) → (nat_le first x && (nat_lt (x - first) (area_step * count) && nat_eq ((x - first) % area_step) 0)) ≡ t
        → (if t then Some ((x - first) / area_step) else None) ≡ Some k → k < count
    go true t e =
        let l = ltb-true (x - first) (area_step * count) (and_parts (nat_lt (x - first) (area_step * count)) _
        (and_parts (nat_le first x) _ t).1).0 in
        let i = same_Some ((x - first) / area_step) k e in omega (arith, l, i)
    go false t e = absurd (none-some k e)

handle_read : (nb : Notes) (x : ℕ) (o : Option ℕ) → ((k : ℕ) → o ≡ Some k → k < handle_count)
    → is_handle (or_wild x (or_null x (option_map value.Handle o))) ≡ true → IsValue nb (or_wild x (or_null x (option_map value.Handle o)))
handle_read nb x o f e = go (nat_eq x 0) o f e
  where
    go : (t : Bool) (o : Option ℕ) → ((k : ℕ) → o ≡ Some k → k < handle_count)
        → is_handle (or_wild x (if t then Some value.Null else option_map value.Handle o)) ≡ true
        → IsValue nb (or_wild x (if t then Some value.Null else option_map value.Handle o))
    go true o f e = tt
    go false None f e = absurd (false≢true e)
    go false (Some k) f e = f k refl

status_read_plain : (w x : ℕ) → NoHandle (or_wild x (status_read w x))
status_read_plain w x = go (nat_lt x (2 ^ 31)) (nat_le (error_bit w) x && nat_lt (x - error_bit w) (2 ^ 31))
  where
    go : (s t : Bool) → NoHandle (or_wild x (if s then Some (value.StatusOk x) else if t then Some (value.StatusError (x - error_bit w))
        else None))
    go true t = tt
    go false true = tt
    go false false = tt

not_handle : (v : Value) → NoHandle v → (k : ℕ) → v ≡ value.Handle k → ⊥
not_handle v n k e = subst NoHandle e n

-- an argument that a bound function takes is a value that B's own texts may have
pub argument_known : (w : ℕ) (notes nb : Notes) (P : Placement) (made mb : List TypedObject) (byte : ℕ → ℕ) (p : Want) (t : Ty) (x : ℕ)
    → takes_alike p t ≡ true → IsHandedIn t
    → fits mb t (argument_read w notes P made byte (role_of p) x).value ≡ true
    → IsValue nb (argument_read w notes P made byte (role_of p) x).value
unfolding fits argument_read reading_of
argument_known w notes nb P made mb byte (want.Int lo hi) (ty.Int from to div) x e i h = let l = leb-true x to
    (and_parts (nat_le x to) (divides div x) (and_parts (nat_le from x) (nat_le x to && divides div x) h).1).0 in omega (arith, l, i)
argument_known w notes nb P made mb byte want.Handle ty.Handle x e i h = handle_read nb x (handle_named notes P x)
    (λ k. thing_within (handle_at notes P 0) handle_count x k) h
argument_known w notes nb P made mb byte want.Status (ty.Status g) x e i h = status_known nb (or_wild x (status_read w x)) h
    (not_handle (or_wild x (status_read w x)) (status_read_plain w x))
argument_known w notes nb P made mb byte wanted t x e i h = absurd (false≢true e)

-- what B takes, where no argument is refused
pub arguments_known : (w : ℕ) (notes nb : Notes) (P : Placement) (made mb : List TypedObject) (byte : ℕ → ℕ) (k : ℕ) (ps : List WantParam)
    (qs : List Param) (xs : List ℕ) → length ps ≡ length qs → length xs ≡ length ps
    → list_all param_agrees (zip ps qs) ≡ true → Each (λ (q : Param). IsHandedIn q.ty) qs
    → parameter_refused mb k qs (arguments_read w notes P made byte ps xs) ≡ None
    → ValuesFit mb qs (map (λ (x : Seen). x.value) (arguments_read w notes P made byte ps xs))
    × AllByRecursion (IsValue nb) (map (λ (x : Seen). x.value) (arguments_read w notes P made byte ps xs))
unfolding arguments_read parameter_refused
arguments_known w notes nb P made mb byte k [] [] xs l m a h e = (record { long = refl; each = λ j q v g f. absurd (none-some q g) }, tt)
arguments_known w notes nb P made mb byte k [] (q ∷ qs) xs l m a h e = absurd (omega (arith, l))
arguments_known w notes nb P made mb byte k (p ∷ ps) [] xs l m a h e = absurd (omega (arith, l))
arguments_known w notes nb P made mb byte k (p ∷ ps) (q ∷ qs) [] l m a h e = absurd (omega (arith, m))
arguments_known w notes nb P made mb byte k (p ∷ ps) (q ∷ qs) (x ∷ xs) l m a h e =
    go (fits mb q.ty (argument_read w notes P made byte (role_of p.want) x).value) refl e
    (λ n. arguments_known w notes nb P made mb byte (suc k) ps qs xs (omega (arith, l)) (omega (arith, m))
    (and_parts (param_agrees (p, q)) _ a).1 (λ j r g. h (suc j) r g) n)
  where
    go : (t : Bool) → fits mb q.ty (argument_read w notes P made byte (role_of p.want) x).value ≡ t
        → (if t then parameter_refused mb (suc k) qs (arguments_read w notes P made byte ps xs) else Some
        (ending.Mismatch (reason.Argument k (argument_read w notes P made byte (role_of p.want) x) (given value.Any)))) ≡ None
        → (parameter_refused mb (suc k) qs (arguments_read w notes P made byte ps xs) ≡ None
        → ValuesFit mb qs (map (λ (x : Seen). x.value) (arguments_read w notes P made byte ps xs))
        × AllByRecursion (IsValue nb) (map (λ (x : Seen). x.value) (arguments_read w notes P made byte ps xs)))
        → ValuesFit mb (q ∷ qs) ((argument_read w notes P made byte (role_of p.want) x).value ∷ map (λ (x : Seen). x.value)
        (arguments_read w notes P made byte ps xs))
        × AllByRecursion (IsValue nb) ((argument_read w notes P made byte (role_of p.want) x).value ∷ map (λ (x : Seen). x.value)
        (arguments_read w notes P made byte ps xs))
    go false is e more = absurd (none-some _ (sym e))
    go true is e more =
        let r = more e in (
          record { long = ap suc r.0.long; each = each r.0 },
          (
            argument_known w notes nb P made mb byte p.want q.ty x
                (and_parts (same_kind p.kind q.kind) _ (and_parts (param_agrees (p, q)) _ a).0).1 (h 0 q refl) is,
            r.1,
          ),
        )
      where
        each : ValuesFit mb qs (map (λ (x : Seen). x.value) (arguments_read w notes P made byte ps xs)) → (j : ℕ) (r : Param) (v : Value)
            → slice_get (q ∷ qs) j ≡ Some r
            → slice_get ((argument_read w notes P made byte (role_of p.want) x).value ∷ map (λ (x : Seen). x.value)
            (arguments_read w notes P made byte ps xs)) j ≡ Some v → fits mb r.ty v ≡ true
        each f zero r v g k = subst (λ (z : Param). fits mb z.ty v ≡ true) (same_Some q r g)
            (subst (λ z. fits mb q.ty z ≡ true) (same_Some _ v k) is)
        each f (suc j) r v g k = f.each j r v g k

-- as many slots are read as there are parameters
pub slots_long : (w : ℕ) (s : Concrete) (r : ℕ) (ps : List WantParam) (xs : List ℕ) → slots_from w s r ps ≡ Some xs → length xs ≡ length ps
unfolding slots_from
slots_long w s r [] xs e = sym (ap length (same_Some [] xs e))
slots_long w s r (p ∷ ps) xs e =
    let q = before_some (loaded s (cut_at w r) (slot_bytes w p.kind)) (slots_from w s (r + slot_bytes w p.kind) ps) xs e in
    sym (ap length q.4) ∙ ap suc (slots_long w s (r + slot_bytes w p.kind) ps q.1 q.3)
