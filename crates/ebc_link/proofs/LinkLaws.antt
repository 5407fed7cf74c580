-- What objects are linked to, by the tries in their order; and back.
use Rattle.ebc_link.proofs.Common.{◌≡◌, ℕ, ◌≤◌, ◌<◌, Bool, true, false, List, [], Option, Some, None, Result, Ok, Err, refl, nat_le}
use Rattle.ebc_link.proofs.Common.{leb-true, ◌>>=◌, or_else, most, Image, LinkPlan, Laid, definitions, first_again, first_in, names_of}
use Rattle.ebc_link.proofs.Common.{undefined_in, far_in, Entry, Far, Fault, Size, Twice, Undefined, entry_in, unless_some}
use Rattle.std.proofs.lemmas.Bool.{le-leb, lt-leb}
use Rattle.ebc_base.specs.Steps.{passes}
use Rattle.ebc_link.specs.Links.{linked_image, links_laid}

-- ---- the first fault

-- No name is defined again, and none is undefined.
pub record AreResolved (ls : List Laid) : Type 0 where
  pub twice : first_again [] (names_of (definitions ls)) ≡ None
  pub undefined : first_in (undefined_in (definitions ls)) ls ≡ None

pub ends_far : (plan : LinkPlan) (ls : List Laid) (contents place : ℕ) → AreResolved ls
    → first_in (far_in (definitions ls)) ls ≡ Some place → links_laid plan ls contents ≡ Err (Far place)
unfolding links_laid
ends_far plan ls contents place resolved far = rw (resolved.twice, resolved.undefined, far) refl

pub ends_entry : (plan : LinkPlan) (ls : List Laid) (contents : ℕ) → AreResolved ls → first_in (far_in (definitions ls)) ls ≡ None
    → first_in (entry_in plan.entry) ls ≡ None → links_laid plan ls contents ≡ Err Entry
unfolding links_laid
ends_entry plan ls contents resolved near entry = rw (resolved.twice, resolved.undefined, near, entry) refl

pub ends_size : (plan : LinkPlan) (ls : List Laid) (contents entry : ℕ) → AreResolved ls → first_in (far_in (definitions ls)) ls ≡ None
    → first_in (entry_in plan.entry) ls ≡ Some entry → most < (linked_image plan (definitions ls) ls contents entry).size
    → links_laid plan ls contents ≡ Err Size
unfolding links_laid
ends_size plan ls contents entry resolved near enters large =
    rw (resolved.twice, resolved.undefined, near, enters, lt-leb _ most large) refl

pub ends_linked : (plan : LinkPlan) (ls : List Laid) (contents entry : ℕ) → AreResolved ls → first_in (far_in (definitions ls)) ls ≡ None
    → first_in (entry_in plan.entry) ls ≡ Some entry → (linked_image plan (definitions ls) ls contents entry).size ≤ most
    → links_laid plan ls contents ≡ Ok (linked_image plan (definitions ls) ls contents entry)
unfolding links_laid
ends_linked plan ls contents entry resolved near enters small =
    rw (resolved.twice, resolved.undefined, near, enters, le-leb _ most small) refl

-- ---- an image

pub unless_ok : {A Y : Type 0} → (fault : A → Fault) (o : Option A) (next : Unit {0} → Result Y Fault) (y : Y)
    → (unless_some fault o >>= next) ≡ Ok y → (o ≡ None) × (next tt ≡ Ok y)
unless_ok fault None next y e = (refl, e)
unless_ok fault (Some x) next y e = absurd cc

else_ok : {A Y : Type 0} → (f : Fault) (o : Option A) (next : A → Result Y Fault) (y : Y) → (or_else f o >>= next) ≡ Ok y
    → (x : A) × (o ≡ Some x) × (next x ≡ Ok y)
else_ok f None next y e = absurd cc
else_ok f (Some x) next y e = (x, refl, e)

passes_ok : {Y : Type 0} → (f : Fault) (b : Bool) (next : Unit {0} → Result Y Fault) (y : Y) → (passes b f >>= next) ≡ Ok y
    → (b ≡ true) × (next tt ≡ Ok y)
passes_ok f true next y e = (refl, e)
passes_ok f false next y e = absurd cc

-- What holds where objects are linked to an image.
pub record IsMade (plan : LinkPlan) (ls : List Laid) (contents : ℕ) (image : Image) : Type 0 where
  pub resolved : AreResolved ls
  pub near : first_in (far_in (definitions ls)) ls ≡ None
  pub place : ℕ
  pub enters : first_in (entry_in plan.entry) ls ≡ Some place
  pub small : (linked_image plan (definitions ls) ls contents place).size ≤ most
  pub is : image ≡ linked_image plan (definitions ls) ls contents place

same_ok : {X E : Type 0} → (r : Result X E) (x y : X) → r ≡ Ok x → r ≡ Ok y → y ≡ x
same_ok r x y one two = cc

pub made : (plan : LinkPlan) (ls : List Laid) (contents : ℕ) (image : Image) → links_laid plan ls contents ≡ Ok image
    → IsMade plan ls contents image
unfolding links_laid
made plan ls contents image e =
    let twice = unless_ok Twice (first_again [] (names_of (definitions ls))) _ image e in
    let undefined = unless_ok Undefined (first_in (undefined_in (definitions ls)) ls) _ image twice.1 in
    let far = unless_ok Far (first_in (far_in (definitions ls)) ls) _ image undefined.1 in
    let entry = else_ok Entry (first_in (entry_in plan.entry) ls) _ image far.1 in
    let size = passes_ok Size (nat_le (linked_image plan (definitions ls) ls contents entry.0).size most) _ image entry.2 in
    record {
      resolved = record { twice = twice.0; undefined = undefined.0 };
      near = far.0;
      place = entry.0;
      enters = entry.1;
      small = leb-true (linked_image plan (definitions ls) ls contents entry.0).size most size.0;
      is = same_ok {E = Fault} (Ok (linked_image plan (definitions ls) ls contents entry.0))
          (linked_image plan (definitions ls) ls contents entry.0) image refl size.1;
    }
