-- Laws of functions that are to be entered: they are there, and have at most 16 parameters.
use Rattle.native_host.proofs.Common.{◌≡◌, ℕ, ◌≤◌, ◌<◌, Bool, true, false, ◌&&◌, List, [], length, Option, Some, None, nat_eq, refl, sym}
use Rattle.native_host.proofs.Common.{arith, slice_get, not, nat_le, option_map_or, and_parts, true≢false, slice_get_within, IsNotes}
use Rattle.native_host.proofs.Common.{FnNote, Notes, Param, Value, frame_limit, TypedObject, can_enter}
use Rattle.std.proofs.lemmas.Bool.Decides.{nat_tests}
use Rattle.host_model.specs.{HostPlans.function_params, HostPlans.may_enter, ScriptValues.fits_each}

params-few : (notes : Notes) (f : ℕ) (o : Option FnNote) → IsNotes notes → slice_get notes.function f ≡ o
    → length (option_map_or (λ (g : FnNote). g.params) o []) ≤ 16
params-few notes f None read is = omega arith
params-few notes f (Some g) read is = let few = (read.functions f g is).few in omega (arith, few)

pub function-few : (notes : Notes) (f : ℕ) → IsNotes notes → length (function_params notes f) ≤ 16
function-few notes f read = params-few notes f (slice_get notes.function f) read refl

enter-some : (b : Bool) (o : Option FnNote) → (b && option_map_or (λ (g : FnNote). g.enter) o false) ≡ true → (g : FnNote) × (o ≡ Some g)
enter-some b None may = absurd (true≢false (sym (and_parts b false may).1))
enter-some b (Some g) may = (g, refl)

-- a function that may be entered is one of the notes
pub entered-known : (notes : Notes) (f : ℕ) → may_enter notes f ≡ true → f < length notes.function
entered-known notes f may =
    let there = enter-some (not (nat_eq f notes.entry)) (slice_get notes.function f) may in
    slice_get_within notes.function f there.0 there.1

-- values that fit are as many as the parameters
pub fits-length : (made : List TypedObject) (ps : List Param) (values : List Value) → fits_each made ps values ≡ true
    → length values ≡ length ps
unfolding fits_each
fits-length made ps values fit =
    let same : nat_eq (length ps) (length values) ≡ true = (and_parts (nat_eq (length ps) (length values)) _ fit).0 in
    grind (arith, nat_tests)

-- what a function that may be entered with values has
pub entered-parts : (notes : Notes) (made : List TypedObject) (f : ℕ) (values : List Value) → IsNotes notes
    → can_enter notes made f values ≡ true
    → (f < length notes.function) × (length values ≡ length (function_params notes f)) × (length values ≤ 16)
entered-parts notes made f values read can =
    let both = and_parts (may_enter notes f) (fits_each made (function_params notes f) values) can in
    let same = fits-length made (function_params notes f) values both.1 in
    let few = function-few notes f read in
    (entered-known notes f both.0, same, omega (arith, same, few))

-- so many frames are the most, or fewer
pub is-deep : (depth frames : ℕ) → depth ≡ frames → frame_limit ≤ depth → nat_le frame_limit frames ≡ true
is-deep depth frames same deep = grind (arith, nat_tests)

pub is-low : (depth frames : ℕ) → depth ≡ frames → depth < frame_limit → nat_le frame_limit frames ≡ false
is-low depth frames same low = grind (arith, nat_tests)
