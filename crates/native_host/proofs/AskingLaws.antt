-- Laws of what a call instruction asks for: the site at a place, and the arguments one after the other.
use Rattle.native_host.proofs.Common.{◌≡◌, ℕ, zero, suc, ◌+◌, ◌<◌, ◌≤◌, Bool, true, false, if◌then◌else◌, nat_eq, ltb, List, [], ◌∷◌}
use Rattle.native_host.proofs.Common.{length, map, drop, get_or, ◌++◌, append_assoc, append-nil, Option, Some, None, ⊎_elim, refl, sym, ap}
use Rattle.native_host.proofs.Common.{ap₂, ◌∙◌, arith, option_and_then, option_map_or, none-some, same_Some, slice_get-get_or}
use Rattle.native_host.proofs.Common.{ltb-true, drop_all, drop_more, length-map, Mismatch, Site, Seen, slice_get, cut_at, Memory, byte_at}
use Rattle.native_host.proofs.Common.{ranges, Concrete, register, Notes, Signature, WantParam, memory_state, with_arguments, Frame, Asks}
use Rattle.native_host.proofs.Common.{NoSite, argument_refused, signature_method, signature_params, site_of, asking_at, asking_by}
use Rattle.native_host.proofs.Common.{objects_at, slots_asked, slots_of, Placement, method_at, slot_bytes, Asked, argument_read}
use Rattle.native_host.proofs.Common.{arguments_read, role_of, slots_from, RunState, World, TypedObject}
use Rattle.std.specs.{List.find, Option.IsSomeAnd, List.Sorted.IsNonDecreasingBy, List.Sorted.IsPartitionPoint, List.Sorted.IsPartitionedBy}
use Rattle.std.specs.List.Sorted.{IsStrictlyIncreasing}
use Rattle.std.proofs.lemmas.{Bool.cases_lt, Bool.eq-eqb, Bool.ltb-false, List.get_or-map, List.get_or_default}
use Rattle.std.proofs.lemmas.List.Sorted.{IsNonDecreasingBy-from_all_adjacent, IsPartitionedBy-ltb}
use Rattle.note_types.specs.Concrete.{loaded}
use Rattle.callex_thunk.proofs.SlotLaws.{slots_from-agree}
use Rattle.host_model.specs.{HostPlans.Unmapped, Readings.before_all, ScriptValues.same_seen}
use Rattle.note_types.specs.declared.reason.Reason.TheVariants as reason

-- ---- arguments

pub refused-here : (xs ys : List Seen) (k : ℕ) (d e : Seen) → k < length xs → k < length ys
    → same_seen (get_or xs k d) (get_or ys k e) ≡ false
    → argument_refused k (drop k xs) (drop k ys) ≡ Some (Mismatch (reason.Argument k (get_or xs k d) (get_or ys k e)))
unfolding argument_refused
refused-here xs ys k d e less below other =
    ap₂ (argument_refused k) (drop_more xs k d less) (drop_more ys k e below)
    ∙ ap (λ b. if b then argument_refused (suc k) (drop (k + 1) xs) (drop (k + 1) ys)
    else Some (Mismatch (reason.Argument k (get_or xs k d) (get_or ys k e)))) other

none-right : (k : ℕ) (xs : List Seen) → argument_refused k xs [] ≡ None
unfolding argument_refused
none-right k [] = refl
none-right k (x ∷ xs) = refl

pub refused-past : (xs ys : List Seen) (k : ℕ) → length ys ≤ k → argument_refused k (drop k xs) (drop k ys) ≡ None
refused-past xs ys k past = ap (argument_refused k (drop k xs)) (drop_all k ys past) ∙ none-right k (drop k xs)

-- ---- sites

abbrev pub place_in : Site → ℕ
place_in s = s.place

abbrev pub is_there : ℕ → Site → Bool
is_there t s = nat_eq s.place t

places_rise : (xs : List Site) → IsStrictlyIncreasing (map place_in xs) → IsNonDecreasingBy place_in xs
places_rise xs up =
    IsNonDecreasingBy-from_all_adjacent place_in xs (λ k d within.
    let l = length-map xs place_in in
    let here = get_or-map place_in xs k d 0 (omega arith) in
    let there = get_or-map place_in xs (k + 1) d 0 within in
    let less = up k (omega arith) in omega arith)

pub site-parts : (xs : List Site) (t : ℕ) → IsStrictlyIncreasing (map place_in xs) → IsPartitionedBy (λ x. ltb (place_in x) t) xs
site-parts xs t up = IsPartitionedBy-ltb place_in xs t (places_rise xs up)

-- the sites before number k are before a place, and the others aren't
abbrev pub Begins : List Site → ℕ → ℕ → Type 0
Begins xs t k = IsPartitionPoint (λ x. ltb (place_in x) t ≡ true) (λ x. ltb (place_in x) t ≡ false) xs k

pub other-place : (a t : ℕ) → (a ≡ t → ⊥) → nat_eq a t ≡ false
other-place a t other = grind arith

-- none is at a place where each one isn't
find-none : (xs : List Site) (t : ℕ) → ((j : ℕ) (d : Site) → j < length xs → nat_eq (get_or xs j d).place t ≡ false)
    → find (is_there t) xs ≡ None
find-none [] t each = refl
find-none (x ∷ xs) t each =
    let here : nat_eq x.place t ≡ false = each 0 x (omega arith) in
    rw here (find-none xs t (λ j d less. each (suc j) d (omega arith)))

-- the first one at a place is number k
find-at : (xs : List Site) (t k : ℕ) (d : Site) → k < length xs → ((j : ℕ) (e : Site) → j < k → nat_eq (get_or xs j e).place t ≡ false)
    → nat_eq (get_or xs k d).place t ≡ true → find (is_there t) xs ≡ Some (get_or xs k d)
find-at [] t k d less before here = absurd (omega arith)
find-at (x ∷ xs) t zero d less before here = rw here refl
find-at (x ∷ xs) t (suc k) d less before here =
    let first : nat_eq x.place t ≡ false = before 0 x (omega arith) in
    rw first (find-at xs t k d (omega arith) (λ j e below. before (suc j) e (omega arith)) here)

before-it : (xs : List Site) (t k j : ℕ) (d : Site) → Begins xs t k → k ≤ length xs → j < k → nat_eq (get_or xs j d).place t ≡ false
before-it xs t k j d begins within less =
    let below = ltb-true _ _ (begins.0 j d (omega arith) less) in
    other-place (get_or xs j d).place t (λ e. omega arith)

pub site-found : (xs : List Site) (t k : ℕ) (d : Site) → k < length xs → Begins xs t k → (get_or xs k d).place ≡ t
    → find (is_there t) xs ≡ Some (get_or xs k d)
site-found xs t k d within begins same =
    find-at xs t k d within (λ j e less. before-it xs t k j e begins (omega arith) less) (eq-eqb (get_or xs k d).place t same)

pub site-missed : (xs : List Site) (t k : ℕ) (d : Site) → k < length xs → IsStrictlyIncreasing (map place_in xs) → Begins xs t k
    → ((get_or xs k d).place ≡ t → ⊥) → find (is_there t) xs ≡ None
site-missed xs t k d within up begins other =
    let least = ltb-false _ _ (begins.1 k d (omega arith) within) in
    find-none xs t (λ j e less.
    ⊎_elim (λ h. before-it xs t k j e begins (omega arith) h) (λ h.
    let rise = places_rise xs up k j d h less in
    let here : get_or xs j e ≡ get_or xs j d = get_or_default xs j e d less in
    other-place (get_or xs j e).place t (λ same. other (let at : (get_or xs j d).place ≡ t = ap place_in (sym here) ∙ same in
    omega arith)))
    (cases_lt j k))

pub site-past : (xs : List Site) (t k : ℕ) → length xs ≤ k → Begins xs t k → find (is_there t) xs ≡ None
site-past xs t k past begins =
    find-none xs t (λ j e less.
    let below = ltb-true _ _ (begins.0 j e (omega arith) (omega arith)) in
    other-place (get_or xs j e).place t (λ same. omega arith))

-- ---- arguments one after the other

module _ (w : ℕ) (notes : Notes) (P : Placement) (made : List TypedObject) (byte : ℕ → ℕ) where
  abbrev read : List WantParam → List ℕ → List Seen
  read = arguments_read w notes P made byte

  pub read-next : (ps : List WantParam) (xs : List ℕ) (k x : ℕ) (d : WantParam) (args : List Seen) (s : Seen) → k < length ps
      → k < length xs
      → x ≡ get_or xs k 0 → s ≡ argument_read w notes P made byte (role_of (get_or ps k d).want) x
      → (args ++ s ∷ []) ++ read (drop (k + 1) ps) (drop (k + 1) xs) ≡ args ++ read (drop k ps) (drop k xs)
  unfolding arguments_read
  read-next ps xs k x d args s less below number seen =
      append_assoc args (s ∷ []) (read (drop (k + 1) ps) (drop (k + 1) xs))
      ∙ ap (λ ys. args ++ ys)
      (ap (λ y. y ∷ read (drop (k + 1) ps) (drop (k + 1) xs))
      (seen ∙ ap (argument_read w notes P made byte (role_of (get_or ps k d).want)) number)
      ∙ sym (ap₂ read (drop_more ps k d less) (drop_more xs k 0 below)))

  pub read-end : (ps : List WantParam) (xs : List ℕ) (k : ℕ) (args : List Seen) → length ps ≤ k
      → args ++ read (drop k ps) (drop k xs) ≡ args
  unfolding arguments_read
  read-end ps xs k args past = ap (λ qs. args ++ read qs (drop k xs)) (drop_all k ps past) ∙ append-nil args

  -- only as many numbers count as there are parameters
  pub read-front : (ps : List WantParam) (xs ys : List ℕ) → length xs ≡ length ps → read ps (xs ++ ys) ≡ read ps xs
  unfolding arguments_read
  read-front [] [] [] same = refl
  read-front [] [] (y ∷ ys) same = refl
  read-front [] (x ∷ xs) ys same = absurd (omega arith)
  read-front (p ∷ ps) [] ys same = absurd (omega arith)
  read-front (p ∷ ps) (x ∷ xs) ys same = ap (λ zs. argument_read w notes P made byte (role_of p.want) x ∷ zs)
      (read-front ps xs ys (omega arith))

  -- the slots of the top frame begin with the numbers that were copied
  pub read-top : (fs gs : List Frame) (ps : List WantParam) (xs : List ℕ) (args : List Seen) → 0 < length fs → gs ≡ with_arguments xs fs
      → length xs ≡ length ps → ((f : Frame) → slice_get gs 0 ≡ Some f → args ≡ read ps f.slots) → args ≡ read ps xs
  unfolding with_arguments
  read-top [] gs ps xs args some is same each = absurd (omega arith)
  read-top (f ∷ fs) gs ps xs args some is same each =
      each (record f { slots = xs ++ drop (length xs) f.slots }) (ap (λ hs. slice_get hs 0) is)
      ∙ read-front ps xs (drop (length xs) f.slots) same

-- ---- what is asked

-- an item of a number below the length is there
pub there-is : {A : Type 0} (xs : List A) (k : ℕ) → slice_get xs k ≡ None → k < length xs → ⊥
there-is [] k none less = omega arith
there-is (x ∷ xs) k none less = none-some _ (sym none ∙ slice_get-get_or (x ∷ xs) k x less)

-- the numbers that were copied
pub copied-parts : (o : Option (List ℕ)) (P : List ℕ → Type 0) → IsSomeAnd o P → (xs : List ℕ) × (o ≡ Some xs) × P xs
copied-parts None P is = absurd is
copied-parts (Some xs) P is = (xs, refl, is)

-- frames stay as many
pub arguments-length : (xs : List ℕ) (fs : List Frame) → length (with_arguments xs fs) ≡ length fs
unfolding with_arguments
arguments-length xs [] = refl
arguments-length xs (f ∷ fs) = refl

-- as many numbers as parameters
pub slots-count : (w : ℕ) (s : Concrete) (r : ℕ) (ps : List WantParam) (xs : List ℕ) → slots_from w s r ps ≡ Some xs → length xs ≡ length ps
unfolding slots_from
slots-count w s r [] xs is = ap length (sym (same_Some [] xs is))
slots-count w s r (p ∷ ps) xs is =
    parts (loaded s (cut_at w r) (slot_bytes w p.kind)) (slots_from w s (r + slot_bytes w p.kind) ps) xs is
    (λ ys rest. slots-count w s (r + slot_bytes w p.kind) ps ys rest)
  where
    parts : (first : Option ℕ) (rest : Option (List ℕ)) (xs : List ℕ) → before_all first rest ≡ Some xs
        → ((ys : List ℕ) → rest ≡ Some ys → length ys ≡ length ps) → length xs ≡ suc (length ps)
    parts None rest xs is more = absurd (cc)
    parts (Some x) None xs is more = absurd (cc)
    parts (Some x) (Some ys) xs is more = ap length (sym (same_Some (x ∷ ys) xs is)) ∙ ap suc (more ys refl)

module _ (w : ℕ) (world : World) (P : Placement) (r : RunState) (place target : ℕ) where
  pub asks-none : (notes : Notes) → world.notes ≡ notes → None ≡ site_of notes place → asking_at w world P r place target ≡ NoSite
  unfolding asking_at
  asks-none notes same none =
      ap (λ o. option_map_or (λ g. asking_by w world P r target g (slots_of w world r g)) o NoSite)
      (ap (λ n. site_of n place) same ∙ sym none)

  pub asks-by : (notes : Notes) (g : ℕ) (slots : Option (List ℕ)) → world.notes ≡ notes → Some g ≡ site_of notes place
      → slots_of w world r g ≡ slots
      → asking_at w world P r place target ≡ asking_by w world P r target g slots
  unfolding asking_at
  asks-by notes g slots same some are =
      ap (λ o. option_map_or (λ g. asking_by w world P r target g (slots_of w world r g)) o NoSite)
      (ap (λ n. site_of n place) same ∙ sym some)
      ∙ ap (asking_by w world P r target g) are

  pub slots-by : (notes : Notes) (g : ℕ) (slots : Option (List ℕ)) → world.notes ≡ notes → Some g ≡ site_of notes place
      → slots_of w world r g ≡ slots
      → slots_asked w world r (Asked place target) ≡ option_map_or (λ xs. xs) slots []
  slots-by notes g slots same some are =
      ap (λ o. option_map_or (λ xs. xs) (option_and_then (slots_of w world r) o) []) (ap (λ n. site_of n place) same ∙ sym some)
      ∙ ap (λ o. option_map_or (λ xs. xs) o []) are

  pub slots-none : (notes : Notes) → world.notes ≡ notes → None ≡ site_of notes place → slots_asked w world r (Asked place target) ≡ []
  slots-none notes same none =
      ap (λ o. option_map_or (λ xs. xs) (option_and_then (slots_of w world r) o) []) (ap (λ n. site_of n place) same ∙ sym none)

  -- the slots that a memory holds
  pub slots-are : (notes : Notes) (g r0 : ℕ) (m : Memory) (signature : Signature) → world.notes ≡ notes
      → slice_get notes.signature g ≡ Some signature → register r.machine 0 ≡ r0 → r.machine.objects ≡ ranges m → r.machine.byte ≡ byte_at m
      → slots_of w world r g ≡ slots_from w (memory_state m) r0 signature.params
  slots-are notes g r0 m signature same there first objects byte =
      ap₂ (λ a ps. slots_from w r.machine a ps) first
      (ap (λ (n : Notes). signature_params n g) same ∙ ap (λ o. option_map_or (λ (s : Signature). s.params) o []) there)
      ∙ slots_from-agree w r.machine (memory_state m) r0 signature.params objects byte

  -- the slots aren't all mapped
  pub asks-unmapped : (notes : Notes) (g r0 : ℕ) (m : Memory) (signature : Signature) → world.notes ≡ notes → Some g ≡ site_of notes place
      → slice_get notes.signature g ≡ Some signature → register r.machine 0 ≡ r0 → r.machine.objects ≡ ranges m → r.machine.byte ≡ byte_at m
      → slots_from w (memory_state m) r0 signature.params ≡ None
      → asking_at w world P r place target ≡ Unmapped g
  asks-unmapped notes g r0 m signature same some there first objects byte none =
      asks-by notes g None same some (slots-are notes g r0 m signature same there first objects byte ∙ none)

  -- they are
  pub asks-all : (notes : Notes) (g r0 : ℕ) (m : Memory) (signature : Signature) (made : List TypedObject) (xs : List ℕ) (args : List Seen)
      → world.notes ≡ notes → Some g ≡ site_of notes place
      → slice_get notes.signature g ≡ Some signature → register r.machine 0 ≡ r0 → r.machine.objects ≡ ranges m → r.machine.byte ≡ byte_at m
      → objects_at world r ≡ made → slots_from w (memory_state m) r0 signature.params ≡ Some xs
      → args ≡ arguments_read w notes P made (byte_at m) signature.params xs
      → asking_at w world P r place target
      ≡ Asks g (if nat_eq target (method_at P signature.method) then None else Some target) args
  asks-all notes g r0 m signature made xs args same some there first objects byte are mapped seen =
      let params : signature_params notes g ≡ signature.params = ap (λ o. option_map_or (λ (s : Signature). s.params) o []) there in
      let method : signature_method notes g ≡ signature.method = ap (λ o. option_map_or (λ (s : Signature). s.method) o 0) there in
      asks-by notes g (Some xs) same some (slots-are notes g r0 m signature same there first objects byte ∙ mapped)
      ∙ (ap (λ (n : Notes). Asks g (if nat_eq target (method_at P (signature_method n g)) then None else Some target)
      (arguments_read w n P (objects_at world r) r.machine.byte (signature_params n g) xs)) same
      ∙ (ap₂ (λ k ps. Asks g (if nat_eq target (method_at P k) then None else Some target)
      (arguments_read w notes P (objects_at world r) r.machine.byte ps xs)) method params
      ∙ (ap₂ (λ ms b. Asks g (if nat_eq target (method_at P signature.method) then None else Some target)
      (arguments_read w notes P ms b signature.params xs)) are byte
      ∙ ap (Asks g (if nat_eq target (method_at P signature.method) then None else Some target)) (sym seen))))

  -- the slots that are copied, where they are mapped and where they aren't
  pub copied-all : (notes : Notes) (g r0 : ℕ) (m : Memory) (signature : Signature) (xs : List ℕ) → world.notes ≡ notes
      → Some g ≡ site_of notes place
      → slice_get notes.signature g ≡ Some signature → register r.machine 0 ≡ r0 → r.machine.objects ≡ ranges m → r.machine.byte ≡ byte_at m
      → slots_from w (memory_state m) r0 signature.params ≡ Some xs
      → slots_asked w world r (Asked place target) ≡ xs
  copied-all notes g r0 m signature xs same some there first objects byte mapped =
      slots-by notes g (Some xs) same some (slots-are notes g r0 m signature same there first objects byte ∙ mapped)

  pub copied-none : (notes : Notes) (g r0 : ℕ) (m : Memory) (signature : Signature) → world.notes ≡ notes
      → Some g ≡ site_of notes place
      → slice_get notes.signature g ≡ Some signature → register r.machine 0 ≡ r0 → r.machine.objects ≡ ranges m → r.machine.byte ≡ byte_at m
      → slots_from w (memory_state m) r0 signature.params ≡ None
      → slots_asked w world r (Asked place target) ≡ []
  copied-none notes g r0 m signature same some there first objects byte none =
      slots-by notes g None same some (slots-are notes g r0 m signature same there first objects byte ∙ none)
