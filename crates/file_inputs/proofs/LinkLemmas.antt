-- The objects that a link plan names, read one after the other: the objects of their files, or the first that stops the reading.
use Rattle.std.proofs.Common.{◌≡◌, ℕ, ◌+◌, ◌<◌, ◌≤◌, List, [], ◌∷◌, ◌++◌, length, drop, get_or, Option, Some, None, IfSome, Result}
use Rattle.std.proofs.Common.{Ok, Err, refl, sym, ap, ◌∙◌, append_assoc, append-nil, drop_of_length-le, length-append, arith, All}
use Rattle.ebc_link.proofs.LaidLaws.{at_hand}
use Rattle.ebc_object.specs.declared.object.Object.{Object}
use Rattle.ebc_outside.specs.Files.{Files}
use Rattle.cli_base.specs.declared.reply.Reply.{Reply}
use Rattle.file_inputs.specs.Inputs.{input, object_limit, object_meaning}
use Rattle.file_inputs.specs.Linkings.{each_object}
use Rattle.ebc_object.specs.Objects.{IsObject}
use Rattle.std.proofs.lemmas.List.Elements.{All-push, All-same}
use Rattle.cli_base.specs.Readings.{FileReading, ◌>>=◌, Follows, done, go_on}
use Rattle.cli_base.specs.declared.reply.End.{End}
use Rattle.cli_base.specs.declared.reply.End.TheVariants as ends
use Rattle.file_inputs.proofs.ReadingsLemmas.{ends-before, later-part}

abbrev read_one : ℕ → List ℕ → Files → FileReading Object
read_one word name files = input object_limit object_meaning word name files

-- ---- objects in a loop: what was read so far, and what is left

-- values behind others
abbrev with_front : List Object → Result (List Object) Reply → Result (List Object) Reply
with_front objects (Ok others) = Ok (objects ++ others)
with_front objects (Err reply) = Err reply

-- So many names were asked for, and these objects were read: reading all comes to that, and then to the reading of what is left.
pub record IsReadTo (word : ℕ) (files : Files) (names : List (List ℕ)) (index : ℕ) (before now : List (List ℕ))
    (objects : List Object) : Type 0 where
  pub asked : List (List ℕ)
  pub now_is : now ≡ before ++ asked
  pub all_asked : (each_object word names files).asked ≡ asked ++ (each_object word (drop index names) files).asked
  pub all_read : (each_object word names files).value ≡ with_front objects (each_object word (drop index names) files).value

with-none : (value : Result (List Object) Reply) → value ≡ with_front [] value
with-none (Ok others) = refl
with-none (Err reply) = refl

pub read-none : (word : ℕ) (old : Option Files) (names : List (List ℕ)) (before : List (List ℕ))
    → IfSome old (λ files. IsReadTo word files names 0 before before [])
read-none word None names before = tt
read-none word (Some files) names before =
    record { asked = []; now_is = sym (append-nil before); all_asked = refl; all_read = with-none (each_object word names files).value }

-- an object in front of what is left
rest-asked : (asked : List (List ℕ)) (value : Result (List Object) Reply) (object : Object)
    → (go_on asked value (λ rest. done (object ∷ rest))).asked ≡ asked
rest-asked asked (Ok rest) object = append-nil asked
rest-asked asked (Err reply) object = refl

rest-value : (asked : List (List ℕ)) (value : Result (List Object) Reply) (object : Object)
    → (go_on asked value (λ rest. done (object ∷ rest))).value ≡ with_front (object ∷ []) value
rest-value asked (Ok rest) object = refl
rest-value asked (Err reply) object = refl

-- what is left once the next one is read
next-asked : (word : ℕ) (files : Files) (name : List ℕ) (names : List (List ℕ)) (object : Object)
    → (read_one word name files).value ≡ Ok object
    → (each_object word (name ∷ names) files).asked ≡ (read_one word name files).asked ++ (each_object word names files).asked
unfolding each_object
next-asked word files name names object goes = rw goes (ap (λ more. (read_one word name files).asked ++ more)
    (rest-asked (each_object word names files).asked (each_object word names files).value object))

next-value : (word : ℕ) (files : Files) (name : List ℕ) (names : List (List ℕ)) (object : Object)
    → (read_one word name files).value ≡ Ok object
    → (each_object word (name ∷ names) files).value ≡ with_front (object ∷ []) (each_object word names files).value
unfolding each_object
next-value word files name names object goes = rw goes (rest-value (each_object word names files).asked
    (each_object word names files).value object)

-- values behind others, and these behind more
with-both : (front : List Object) (object : Object) (now : List Object) (value : Result (List Object) Reply) → now ≡ front ++ object ∷ []
    → with_front front (with_front (object ∷ []) value) ≡ with_front now value
with-both front object now (Ok rest) e = ap Ok (sym (append_assoc front (object ∷ []) rest) ∙ ap (λ os. os ++ rest) (sym e))
with-both front object now (Err reply) e = refl

read-more : (word : ℕ) (files : Files) (names : List (List ℕ)) (i : ℕ) (name : List ℕ) (object : Object) (before mid now : List (List ℕ))
    (objects more : List Object) → drop i names ≡ name ∷ drop (i + 1) names → IsReadTo word files names i before mid objects
    → Follows mid now (Ok object) (read_one word name files) → more ≡ objects ++ object ∷ []
    → IsReadTo word files names (i + 1) before now more
read-more word files names i name object before mid now objects more here so_far one put =
    let rest = each_object word (drop (i + 1) names) files in
    let asked_here : (each_object word (drop i names) files).asked ≡ (read_one word name files).asked ++ rest.asked =
    ap (λ ns. (each_object word ns files).asked) here ∙ next-asked word files name (drop (i + 1) names) object one.0 in
    let value_here : (each_object word (drop i names) files).value ≡ with_front (object ∷ []) rest.value =
    ap (λ ns. (each_object word ns files).value) here ∙ next-value word files name (drop (i + 1) names) object one.0 in
    record {
      asked = so_far.asked ++ (read_one word name files).asked;
      now_is = one.1 ∙ ap (λ ns. ns ++ (read_one word name files).asked) so_far.now_is
          ∙ append_assoc before so_far.asked (read_one word name files).asked;
      all_asked = so_far.all_asked ∙ ap (λ ns. so_far.asked ++ ns) asked_here
          ∙ sym (append_assoc so_far.asked (read_one word name files).asked rest.asked);
      all_read = so_far.all_read ∙ ap (with_front objects) value_here ∙ with-both objects object more rest.value put;
    }

-- once all are read
read-all : (word : ℕ) (files : Files) (names : List (List ℕ)) (i : ℕ) (before now : List (List ℕ)) (objects : List Object)
    → length names ≤ i
    → IsReadTo word files names i before now objects → Follows before now (Ok objects) (each_object word names files)
unfolding each_object
read-all word files names i before now objects past so_far =
    let none : drop i names ≡ [] = drop_of_length-le names past in
    let asked : (each_object word names files).asked ≡ so_far.asked =
    so_far.all_asked ∙ ap (λ ns. so_far.asked ++ (each_object word ns files).asked) none ∙ append-nil so_far.asked in
    let value : (each_object word names files).value ≡ Ok objects =
    so_far.all_read ∙ ap (λ ns. with_front objects (each_object word ns files).value) none ∙ ap Ok (append-nil objects) in
    (value, so_far.now_is ∙ ap (λ ns. before ++ ns) (sym asked))

-- what ends the reading of what is left ends that of all
read-ends : (word : ℕ) (files : Files) (names : List (List ℕ)) (i : ℕ) (before mid now : List (List ℕ)) (objects : List Object) (end : End)
    → IsReadTo word files names i before mid objects → Follows {A = List Object} mid now (Err end) (each_object word (drop i names) files)
    → Follows {A = List Object} before now (Err end) (each_object word names files)
read-ends word files names i before mid now objects (ends.Stop reply) so_far stops =
    let rest = each_object word (drop i names) files in (
      so_far.all_read ∙ ap (with_front objects) stops.0,
      stops.1 ∙ ap (λ ns. ns ++ rest.asked) so_far.now_is ∙ append_assoc before so_far.asked rest.asked
          ∙ ap (λ ns. before ++ ns) (sym so_far.all_asked),
    )
read-ends word files names i before mid now objects ends.ReadFault so_far part =
    rw so_far.all_asked (later-part before mid now so_far.asked (each_object word (drop i names) files).asked so_far.now_is part)
read-ends word files names i before mid now objects ends.NoMemory so_far part =
    rw so_far.all_asked (later-part before mid now so_far.asked (each_object word (drop i names) files).asked so_far.now_is part)

-- ---- the same where files are told

pub more-read : (word : ℕ) (old mid : Option Files) (names : List (List ℕ)) (i : ℕ) (name text : List ℕ) (object : Object)
    (before between now : List (List ℕ)) (objects more : List Object) → i < length names → name ≡ get_or names i name → text ≡ name
    → mid ≡ old → IfSome old (λ files. IsReadTo word files names i before between objects)
    → IfSome mid (λ files. Follows between now (Ok object) (input object_limit object_meaning word text files))
    → more ≡ objects ++ object ∷ []
    → IfSome old (λ files. IsReadTo word files names (i + 1) before now more)
more-read word None mid names i name text object before between now objects more inside is spelled same so_far one put = tt
more-read word (Some files) mid names i name text object before between now objects more inside is spelled same so_far one put =
    read-more word files names i name object before between now objects more (at_hand names i name inside is) so_far
    (rw (sym spelled) (rw same at one)) put

pub all-read : (word : ℕ) (old : Option Files) (names : List (List ℕ)) (i : ℕ) (before now : List (List ℕ)) (objects : List Object)
    → length names ≤ i
    → IfSome old (λ files. IsReadTo word files names i before now objects)
    → IfSome old (λ files. Follows before now (Ok objects) (each_object word names files))
all-read word None names i before now objects past so_far = tt
all-read word (Some files) names i before now objects past so_far = read-all word files names i before now objects past so_far

pub one-ends : (word : ℕ) (old mid : Option Files) (names : List (List ℕ)) (i : ℕ) (name text : List ℕ) (before between now : List (List ℕ))
    (objects : List Object) (end : End) → i < length names → name ≡ get_or names i name → text ≡ name → mid ≡ old
    → IfSome old (λ files. IsReadTo word files names i before between objects)
    → IfSome mid (λ files. Follows {A = Object} between now (Err end) (input object_limit object_meaning word text files))
    → IfSome old (λ files. Follows {A = List Object} before now (Err end) (each_object word names files))
unfolding each_object
one-ends word None mid names i name text before between now objects end inside is spelled same so_far one = tt
one-ends word (Some files) mid names i name text before between now objects end inside is spelled same so_far one =
    let here : drop i names ≡ name ∷ drop (i + 1) names = at_hand names i name inside is in
    let f : Object → FileReading (List Object) = λ object. each_object word (drop (i + 1) names) files >>= (λ rest. done (object ∷ rest)) in
    let left : Follows {A = List Object} between now (Err end) (read_one word name files >>= f) =
    ends-before between now (read_one word name files) f end (rw (sym spelled) (rw same at one)) in
    read-ends word files names i before between now objects end so_far (rw here left)

pub none-kept : (word : ℕ) (old mid : Option Files) (names : List (List ℕ)) (i : ℕ) (name text : List ℕ) (object : Object)
    (before between now : List (List ℕ)) (objects : List Object) → i < length names → name ≡ get_or names i name → text ≡ name
    → mid ≡ old → IfSome old (λ files. IsReadTo word files names i before between objects)
    → IfSome mid (λ files. Follows between now (Ok object) (input object_limit object_meaning word text files))
    → IfSome old (λ files. Follows {A = List Object} before now (Err ends.NoMemory) (each_object word names files))
none-kept word None mid names i name text object before between now objects inside is spelled same so_far one = tt
none-kept word (Some files) mid names i name text object before between now objects inside is spelled same so_far one =
    let more = read-more word files names i name object before between now objects (objects ++ object ∷ []) (at_hand names i name inside is)
    so_far (rw (sym spelled) (rw same at one)) refl in
    record { first = more.asked; others = (each_object word (drop (i + 1) names) files).asked; whole = more.all_asked; asked = more.now_is }

-- one object more
pub one-more : (old new : List Object) (object : Object) (index : ℕ) → All IsObject old → IsObject object → length old ≡ index
    → new ≡ old ++ object ∷ [] → All IsObject new × (length new ≡ index + 1)
one-more old new object index all is many put = (
  All-same IsObject new (old ++ object ∷ []) put (All-push IsObject old object all is),
  let long = ap length put in let more = length-append old (object ∷ []) in omega (arith, long, more, many),
)
