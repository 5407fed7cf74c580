-- The typed objects of a script, one call more at a time.
use Rattle.protocol_script.proofs.Common.{◌≡◌, ℕ, ◌+◌, ◌≤◌, ◌<◌, List, [], ◌∷◌, ◌++◌, length, map, take, drop, get_or, refl, sym, ap, subst}
use Rattle.protocol_script.proofs.Common.{◌∙◌, arith, length-map, map-append, flat_map, Notes, Script, ScriptCall, TypedObject}
use Rattle.protocol_script.proofs.Common.{made_objects, objects_of, placed_objects, script_object, static_object}
use Rattle.std.proofs.{Common.append_assoc, Common.length-append, lemmas.List.append-nil, lemmas.List.take-append-drop}
use Rattle.std.proofs.lemmas.List.{take_all, take_more}

-- ---- lists

pub flat_map-append : {A B : Type 0} (f : A → List B) (xs ys : List A) → flat_map f (xs ++ ys) ≡ flat_map f xs ++ flat_map f ys
flat_map-append f [] ys = refl
flat_map-append f (x ∷ xs) ys = ap (λ z. f x ++ z) (flat_map-append f xs ys) ∙ sym (append_assoc (f x) (flat_map f xs) (flat_map f ys))

pub map-flat_map : {A B C : Type 0} (g : B → C) (f : A → List B) (xs : List A) → map g (flat_map f xs) ≡ flat_map (λ x. map g (f x)) xs
map-flat_map g f [] = refl
map-flat_map g f (x ∷ xs) = map-append g (f x) (flat_map f xs) ∙ ap (λ z. map g (f x) ++ z) (map-flat_map g f xs)

pub take_one : {A : Type 0} (xs : List A) (i : ℕ) (x : A) → i < length xs → x ≡ get_or xs i x → take (i + 1) xs ≡ take i xs ++ x ∷ []
take_one xs i x within is = take_more xs i x within ∙ ap (λ z. take i xs ++ z ∷ []) (sym is)

pub flat_map-one : {A B : Type 0} (f : A → List B) (xs : List A) (i : ℕ) (x : A) → i < length xs → x ≡ get_or xs i x
    → flat_map f (take (i + 1) xs) ≡ flat_map f (take i xs) ++ f x
flat_map-one f xs i x within is =
    ap (flat_map f) (take_one xs i x within is) ∙ (flat_map-append f (take i xs) (x ∷ [])
    ∙ ap (λ z. flat_map f (take i xs) ++ z) (append-nil (f x)))

pub length-both : {A : Type 0} (xs ys : List A) → length (xs ++ ys) ≡ length xs + length ys
length-both xs ys = rw length-append refl

-- ---- the objects of a script

pub placed-start : (script : Script) → placed_objects script 0 ≡ script.object
unfolding placed_objects
placed-start script = append-nil script.object

pub placed-more : (script : Script) (i : ℕ) (c : ScriptCall) → i < length script.call → c ≡ get_or script.call i c
    → placed_objects script (i + 1) ≡ placed_objects script i ++ c.make
unfolding placed_objects
placed-more script i c within is =
    ap (λ z. script.object ++ z) (flat_map-one objects_of script.call i c within is)
    ∙ sym (append_assoc script.object (flat_map objects_of (take i script.call)) c.make)

pub placed-all : (script : Script) → placed_objects script (length script.call) ≡ script.object ++ flat_map objects_of script.call
unfolding placed_objects
placed-all script = ap (λ z. script.object ++ flat_map objects_of z) (take_all (length script.call) script.call (omega arith))

pub made-start : (notes : Notes) (script : Script) → made_objects notes script 0 ≡ map static_object notes.statics
    ++ map script_object script.object
unfolding made_objects
made-start notes script = ap (λ z. map static_object notes.statics ++ map script_object z) (placed-start script)

pub made-all : (notes : Notes) (script : Script) → made_objects notes script (length script.call) ≡ made_objects notes script 0
    ++ flat_map (λ (c : ScriptCall). map script_object c.make) script.call
unfolding made_objects
made-all notes script =
    rw (
      placed-all script,
      placed-start script,
      map-append script_object script.object (flat_map objects_of script.call),
      map-flat_map script_object objects_of script.call,
    )
    (sym (append_assoc (map static_object notes.statics) (map script_object script.object)
    (flat_map (λ (c : ScriptCall). map script_object c.make) script.call)))

-- ---- how many there are

pub count-start : (notes : Notes) (script : Script) → length (made_objects notes script 0) ≡ length notes.statics + length script.object
count-start notes script =
    ap length (made-start notes script) ∙ (length-both (map static_object notes.statics) (map script_object script.object)
    ∙ rw (length-map notes.statics static_object, length-map script.object script_object) refl)

pub count-made : (notes : Notes) (script : Script) (n : ℕ) → length (made_objects notes script n) ≡ length notes.statics + length
    (placed_objects script n)
unfolding made_objects
count-made notes script n = length-both (map static_object notes.statics) (map script_object (placed_objects script n))
    ∙ rw (length-map notes.statics static_object, length-map (placed_objects script n) script_object) refl

pub count-more : (notes : Notes) (script : Script) (i : ℕ) (c : ScriptCall) → i < length script.call → c ≡ get_or script.call i c
    → length (made_objects notes script (i + 1)) ≡ length (made_objects notes script i) + length c.make
count-more notes script i c within is =
    let a = count-made notes script (i + 1) in
    let b = count-made notes script i in
    let d : length (placed_objects script (i + 1)) ≡ length (placed_objects script i) + length c.make =
    ap length (placed-more script i c within is) ∙ length-both (placed_objects script i) c.make in
    omega (arith, a, b, d)

pub count-within : (notes : Notes) (script : Script) (i : ℕ) → length (made_objects notes script i) ≤ length
    (made_objects notes script (length script.call))
unfolding placed_objects
count-within notes script i =
    let a = count-made notes script i in
    let b = count-made notes script (length script.call) in
    let all : length (placed_objects script (length script.call)) ≡ length script.object + length (flat_map objects_of script.call) =
    ap length (placed-all script) ∙ length-both script.object (flat_map objects_of script.call) in
    let some : length (placed_objects script i) ≡ length script.object + length (flat_map objects_of (take i script.call)) =
    length-both script.object (flat_map objects_of (take i script.call)) in
    let whole : flat_map objects_of script.call ≡ flat_map objects_of (take i script.call) ++ flat_map objects_of (drop i script.call)
    = ap (flat_map objects_of) (sym (take-append-drop i script.call))
    ∙ flat_map-append objects_of (take i script.call) (drop i script.call) in
    let count : length (flat_map objects_of script.call) ≡ length (flat_map objects_of (take i script.call)) + length
    (flat_map objects_of (drop i script.call)) = ap length whole
    ∙ length-both (flat_map objects_of (take i script.call)) (flat_map objects_of (drop i script.call)) in
    omega (arith, a, b, all, some, count)

-- ---- the calls of a script, where its objects are all made

module _ (notes : Notes) (script : Script) (calls : List ScriptCall) (same : calls ≡ script.call) (i : ℕ) (c : ScriptCall)
    (within : i < length calls) (is : c ≡ get_or calls i c) where
  pub call-count : length (made_objects notes script (i + 1)) ≡ length (made_objects notes script i) + length c.make
  call-count = let below : i < length script.call = subst (λ (z : List ScriptCall). i < length z) same within in
      let here : c ≡ get_or script.call i c = is ∙ ap (λ (z : List ScriptCall). get_or z i c) same in
      count-more notes script i c below here

  pub call-fits : (made : List TypedObject) → made ≡ made_objects notes script (length script.call)
      → length (made_objects notes script i) + length c.make ≤ length made
  call-fits made all =
      let n = ap length all in
      let w = count-within notes script (i + 1) in
      omega (arith, n, w, call-count)
