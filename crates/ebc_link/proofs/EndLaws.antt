-- What an end of a part says of the whole.
use Rattle.ebc_link.proofs.Common.{◌≡◌, List, ◌++◌, Option, Some, None, Result, Ok, Err, refl, ap, map-append, LinkEnd, ◌>>=◌, Fails, Fault}
use Rattle.ebc_link.proofs.Common.{Twice, unless_some, Definition, first_again, names_of}
use Rattle.ebc_link.proofs.AgainLaws.{again_among, again_behind}
use Rattle.ebc_link.specs.declared.end.LinkEnd.TheVariants as ends

-- nothing but want of memory ends what doesn't fail
fails_alike : {X Y : Type 0} → (e : LinkEnd) (r : Result X Fault) (s : Result Y Fault) → ((f : Fault) → r ≡ Err f → s ≡ Err f) → Fails e r
    → Fails e s
fails_alike ends.NoMemory r s same h = tt
fails_alike (ends.Undefined name) r s same h = same _ h
fails_alike (ends.Twice name) r s same h = same _ h
fails_alike (ends.Far place) r s same h = same _ h
fails_alike ends.Entry r s same h = same _ h
fails_alike ends.Size r s same h = same _ h

-- what fails fails whatever was to follow
pub fails_first : {A Y : Type 0} → (fault : A → Fault) (e : LinkEnd) (o : Option A) (next : Unit {0} → Result Y Fault)
    → Fails e (unless_some fault o) → Fails e (unless_some fault o >>= next)
fails_first fault e o next h =
    fails_alike e (unless_some fault o) (unless_some fault o >>= next) (λ f is. ap (λ (r : Result (Unit {0}) Fault). r >>= next) is) h

pub fails_two : {A B Y : Type 0} → (f : A → Fault) (g : B → Fault) (e : LinkEnd) (o : Option A) (u : Option B)
    (next : Unit {0} → Result Y Fault) → Fails e (unless_some f o >>= (λ _. unless_some g u))
    → Fails e (unless_some f o >>= (λ _. unless_some g u >>= next))
fails_two f g e (Some x) u next h = fails_first f e (Some x) (λ _. unless_some g u >>= next) h
fails_two f g e None u next h = fails_first g e u next h

-- what goes on has nothing of a kind
pub none_where_ok : {A : Type 0} → (fault : A → Fault) (o : Option A) → unless_some fault o ≡ Ok tt → o ≡ None
none_where_ok fault None e = refl
none_where_ok fault (Some x) e = absurd cc

-- the fault of a part is that of the whole, where the whole has what the part has
pub fails_as : {A : Type 0} → (fault : A → Fault) (e : LinkEnd) (part whole : Option A) → ((x : A) → part ≡ Some x → whole ≡ Some x)
    → Fails e (unless_some fault part) → Fails e (unless_some fault whole)
fails_as fault e None whole same h = fails_alike e (unless_some fault None) (unless_some fault whole) (λ f is. cc is) h
fails_as fault e (Some x) whole same h = rw (same x refl) h

-- ---- a definition that stands there again, behind others

names-append : (ds es : List Definition) → names_of (ds ++ es) ≡ names_of ds ++ names_of es
names-append ds es = map-append (λ (d : Definition). d.name) ds es

pub twice-more : (old now before one : List Definition) → now ≡ old ++ before → first_again (names_of old) (names_of before) ≡ None
    → first_again (names_of now) (names_of one) ≡ None → first_again (names_of old) (names_of (before ++ one)) ≡ None
twice-more old now before one is none next =
    rw (names-append before one, again_behind (names_of old) (names_of before) (names_of one) none, ← names-append old before, ← is) next

pub twice-fails : (e : LinkEnd) (old now before one rest all : List Definition) → now ≡ old ++ before
    → names_of all ≡ names_of before ++ (names_of one ++ names_of rest) → first_again (names_of old) (names_of before) ≡ None
    → Fails e (unless_some Twice (first_again (names_of now) (names_of one)))
    → Fails e (unless_some Twice (first_again (names_of old) (names_of all)))
twice-fails e old now before one rest all is parts none h =
    fails_as Twice e (first_again (names_of now) (names_of one)) (first_again (names_of old) (names_of all))
    (λ name some.
    rw (parts, again_behind (names_of old) (names_of before) (names_of one ++ names_of rest) none, ← names-append old before, ← is)
    (again_among (names_of now) (names_of one) (names_of rest) name some)) h
