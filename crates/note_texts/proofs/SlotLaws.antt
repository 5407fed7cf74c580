-- Fields, parameters, registers and items are read just where the grammar has them.
use Rattle.std.proofs.Common.{◌≡◌, ℕ, ◌-◌, ◌^◌, ◌≤◌, List, [], ◌∷◌, ◌++◌, Option, Some, None, Bool, true, false, cond, refl, ap, ◌∙◌, arith}
use Rattle.std.proofs.Common.{inl, inr}
use Rattle.std.proofs.lemmas.Bool.Decides.{nat_tests}
use Rattle.std.proofs.lemmas.Option.{option_and_then_some}
use Rattle.std.specs.Prelude.{codes, ◌==◌}
use Rattle.std.specs.Fmt.{decimal}
use Rattle.note_types.specs.declared.cell.SlotKind.{SlotKind}
use Rattle.note_types.specs.declared.cell.SlotKind.TheVariants as kinds
use Rattle.note_texts.specs.CellTexts.{field_of}
use Rattle.note_texts.specs.Grammar.{IsFieldText, ReadsJust}
use Rattle.note_texts.specs.Numbers.{number_in}
use Rattle.note_types.specs.Passing.{IsParameterKind}
use Rattle.note_texts.specs.SlotGrammar.{kind_text, IsItemText, IsParamText, IsRegisterText}
use Rattle.note_texts.specs.SlotTexts.{item_of, param_of, parameter_kind, register_number, register_of, slot_kind, slot_of}
use Rattle.note_texts.specs.Splits.{split_at}
use Rattle.note_texts.specs.declared.cell.FieldText.{FieldText}
use Rattle.note_texts.specs.declared.slot.ItemText.{ItemText}
use Rattle.note_texts.specs.declared.slot.ItemText.TheVariants.{Slot, Locals}
use Rattle.note_texts.specs.declared.slot.ParamText.{ParamText}
use Rattle.note_texts.specs.declared.slot.RegisterText.{RegisterText}
use Rattle.note_texts.proofs.CellLaws.{cell_of-sound, cell_of-complete}
use Rattle.note_texts.proofs.NumberRanges.{number_in-sound, number_in-complete, name_of-sound, name_of-complete, name_lacks, decimal_lacks}
use Rattle.note_texts.proofs.SplitLaws.{split_cases, lacks, split_at-mark}
use Rattle.note_texts.proofs.Tables.{by_word, moved, none_read}
use Rattle.note_texts.proofs.TypeLaws.{type_of-sound, type_of-complete}

-- ---- fields

field_sound : (text : List ℕ) (f : FieldText) → field_of text ≡ Some f → IsFieldText text f
unfolding field_of
field_sound text f h = elim (split_cases 32 text) [
  | inl one ↦
      let g = (rw one.split at h) in
      elim (split_cases 32 one.after) [
        | inl two ↦
            let g = (rw two.split at g) in
            elim (split_cases 32 two.after) [
              | inl three ↦
                  let g = (rw three.split at g) in
                  option_and_then_some _ _ f g (λ name named further.
                  option_and_then_some _ _ f further (λ n first further.
                  option_and_then_some _ _ f further (λ c second further.
                  option_and_then_some _ _ f further (λ cell held e.
                  let a = name_of-sound one.before name named in
                  let b = number_in-sound 0 (2 ^ 32 - 1) two.before n first in
                  let d = number_in-sound 0 (2 ^ 32 - 1) three.before c second in
                  let whole : text ≡ name ++ (codes " " ++ (decimal n ++ (codes " " ++ (decimal c ++ (codes " " ++ three.after))))) =
                  one.whole ∙ (rw (a.0, two.whole, b.0, three.whole, d.0) refl) in
                  moved (IsFieldText text) (record { name = name; n = n; c = c; cell = cell }) f e
                  (three.after, whole, a.1, omega (arith, b.2), omega (arith, d.2), cell_of-sound three.after cell held)))))
              | inr none ↦ none_read f (rw none.0 at g)
            ]
        | inr none ↦ none_read f (rw none.0 at g)
      ]
  | inr none ↦ none_read f (rw none.0 at h)
]

field_complete : (text : List ℕ) (f : FieldText) → IsFieldText text f → field_of text ≡ Some f
unfolding field_of
field_complete text f (cell, whole, named, first, second, held) =
    let one = split_at-mark 32 f.name (decimal f.n ++ (32 ∷ (decimal f.c ++ (32 ∷ cell)))) (name_lacks 32 f.name refl named) in
    let two = split_at-mark 32 (decimal f.n) (decimal f.c ++ (32 ∷ cell)) (decimal_lacks 32 f.n refl (omega arith)) in
    let three = split_at-mark 32 (decimal f.c) cell (decimal_lacks 32 f.c refl (omega arith)) in
    let n = number_in-complete 0 (2 ^ 32 - 1) (decimal f.n) f.n (omega arith) (refl, omega arith, omega arith) in
    let c = number_in-complete 0 (2 ^ 32 - 1) (decimal f.c) f.c (omega arith) (refl, omega arith, omega arith) in
    rw (whole, one, two, three, name_of-complete f.name named, n, c, cell_of-complete cell f.cell held) refl

pub field_read : (text : List ℕ) (read : Option FieldText) → read ≡ field_of text → ReadsJust read (IsFieldText text)
field_read text read h = rw h (λ f. (field_sound text f, field_complete text f))

-- ---- the kinds of slots

pub parameter_kind-sound : (word : List ℕ) (kind : SlotKind) → parameter_kind word ≡ Some kind → (word ≡ kind_text kind)
    × IsParameterKind kind
unfolding parameter_kind
parameter_kind-sound word kind h =
    by_word word (codes "n") _ _ kind h (λ w e. moved (λ kind. (word ≡ kind_text kind) × IsParameterKind kind) kinds.N kind e (w, tt)) (λ h.
    by_word word (codes "q") _ _ kind h (λ w e. moved (λ kind. (word ≡ kind_text kind) × IsParameterKind kind) kinds.Q kind e (w, tt)) (λ h.
    none_read kind h))

pub parameter_kind-complete : (kind : SlotKind) → IsParameterKind kind → parameter_kind (kind_text kind) ≡ Some kind
unfolding parameter_kind
parameter_kind-complete kinds.N h = refl
parameter_kind-complete kinds.Q h = refl
parameter_kind-complete kinds.D h = absurd h

slot_kind_sound : (word : List ℕ) (kind : SlotKind) → slot_kind word ≡ Some kind → word ≡ kind_text kind
unfolding slot_kind
slot_kind_sound word kind h =
    by_word word (codes "d") _ _ kind h (λ w e. moved (λ kind. word ≡ kind_text kind) kinds.D kind e w) (λ h.
    let p = parameter_kind-sound word kind h in p.0)

slot_kind_complete : (kind : SlotKind) → slot_kind (kind_text kind) ≡ Some kind
unfolding slot_kind parameter_kind
slot_kind_complete kinds.N = refl
slot_kind_complete kinds.Q = refl
slot_kind_complete kinds.D = refl

pub kind_split : (kind : SlotKind) (rest : List ℕ) → split_at 32 (kind_text kind ++ (32 ∷ rest)) ≡ Some (kind_text kind, rest)
kind_split kinds.N rest = split_at-mark 32 (codes "n") rest refl
kind_split kinds.Q rest = split_at-mark 32 (codes "q") rest refl
kind_split kinds.D rest = split_at-mark 32 (codes "d") rest refl

-- ---- parameters

param_sound : (text : List ℕ) (p : ParamText) → param_of text ≡ Some p → IsParamText text p
unfolding param_of
param_sound text p h = elim (split_cases 32 text) [
  | inl parts ↦
      let g = (rw parts.split at h) in
      option_and_then_some _ _ p g (λ kind found further.
      option_and_then_some _ _ p further (λ ty typed e.
      let k = parameter_kind-sound parts.before kind found in
      let whole : text ≡ kind_text kind ++ (codes " " ++ parts.after) = parts.whole ∙ (rw k.0 refl) in
      moved (IsParamText text) (record { kind = kind; ty = ty }) p e (parts.after, whole, k.1, type_of-sound parts.after ty typed)))
  | inr none ↦ none_read p (rw none.0 at h)
]

param_complete : (text : List ℕ) (p : ParamText) → IsParamText text p → param_of text ≡ Some p
unfolding param_of
param_complete text p (ty, whole, kind, typed) =
    rw (whole, kind_split p.kind ty, parameter_kind-complete p.kind kind, type_of-complete ty p.ty typed) refl

pub param_read : (text : List ℕ) (read : Option ParamText) → read ≡ param_of text → ReadsJust read (IsParamText text)
param_read text read h = rw h (λ p. (param_sound text p, param_complete text p))

-- ---- registers

cond_some_read : {A : Type 0} (b : Bool) (o : Option A) (y : A) → cond b o None ≡ Some y → (b ≡ true) × (o ≡ Some y)
cond_some_read true o y h = (refl, h)
cond_some_read false o y h = none_read y h

register_number_sound : (word : List ℕ) (n : ℕ) → register_number word ≡ Some n → (word ≡ 82 ∷ decimal n) × (1 ≤ n) × (n ≤ 7)
unfolding register_number
register_number_sound [] n h = none_read n h
register_number_sound (b ∷ digits) n h =
    let p = cond_some_read (b == 82) (number_in 1 7 digits) n h in
    let p0 = p.0 in
    let letter : b ≡ 82 = grind (arith, nat_tests) in
    let d = number_in-sound 1 7 digits n p.1 in
    (rw (letter, d.0) refl, d.1, d.2)

register_sound : (text : List ℕ) (r : RegisterText) → register_of text ≡ Some r → IsRegisterText text r
unfolding register_of
register_sound text r h = elim (split_cases 32 text) [
  | inl parts ↦
      let g = (rw parts.split at h) in
      option_and_then_some _ _ r g (λ register found further.
      option_and_then_some _ _ r further (λ ty typed e.
      let k = register_number_sound parts.before register found in
      let whole : text ≡ codes "R" ++ (decimal register ++ (codes " " ++ parts.after)) = parts.whole ∙ (rw k.0 refl) in
      moved (IsRegisterText text) (record { register = register; ty = ty }) r e
      (parts.after, whole, k.1, k.2, type_of-sound parts.after ty typed)))
  | inr none ↦ none_read r (rw none.0 at h)
]

register_complete : (text : List ℕ) (r : RegisterText) → IsRegisterText text r → register_of text ≡ Some r
unfolding register_of register_number
register_complete text r (ty, whole, low, high, typed) =
    let lack : lacks 32 (82 ∷ decimal r.register) ≡ true = rw (decimal_lacks 32 r.register refl (omega arith)) refl in
    let split = split_at-mark 32 (82 ∷ decimal r.register) ty lack in
    let number = number_in-complete 1 7 (decimal r.register) r.register (omega arith) (refl, low, high) in
    rw (whole, split, number, type_of-complete ty r.ty typed) refl

pub register_read : (text : List ℕ) (read : Option RegisterText) → read ≡ register_of text → ReadsJust read (IsRegisterText text)
register_read text read h = rw h (λ r. (register_sound text r, register_complete text r))

-- ---- items

slot_sound : (text : List ℕ) (i : ItemText) → slot_of text ≡ Some i → IsItemText text i
unfolding slot_of
slot_sound text i h = elim (split_cases 32 text) [
  | inl parts ↦
      let g = (rw parts.split at h) in
      option_and_then_some _ _ i g (λ kind found further.
      option_and_then_some _ _ i further (λ ty typed e.
      let whole : text ≡ kind_text kind ++ (codes " " ++ parts.after) = parts.whole ∙ (rw (slot_kind_sound parts.before kind found) refl) in
      moved (IsItemText text) (Slot kind ty) i e (parts.after, whole, type_of-sound parts.after ty typed)))
  | inr none ↦ none_read i (rw none.0 at h)
]

item_sound : (text : List ℕ) (i : ItemText) → item_of text ≡ Some i → IsItemText text i
unfolding item_of
item_sound text i h =
    by_word text (codes "locals") _ _ i h (λ w e. moved (IsItemText text) Locals i e w) (λ h. slot_sound text i h)

no_locals : (kind : SlotKind) (rest : List ℕ) → item_of (kind_text kind ++ (32 ∷ rest)) ≡ slot_of (kind_text kind ++ (32 ∷ rest))
unfolding item_of
no_locals kinds.N rest = refl
no_locals kinds.Q rest = refl
no_locals kinds.D rest = refl

item_complete : (text : List ℕ) (i : ItemText) → IsItemText text i → item_of text ≡ Some i
unfolding item_of slot_of
item_complete text (Slot kind ty) (rest, whole, typed) =
    let split = kind_split kind rest in
    let slot : slot_of (kind_text kind ++ (32 ∷ rest)) ≡ Some (Slot kind ty) =
    rw (split, slot_kind_complete kind, type_of-complete rest ty typed) refl in
    ap item_of whole ∙ (no_locals kind rest ∙ slot)
item_complete text Locals h = rw h refl

pub item_read : (text : List ℕ) (read : Option ItemText) → read ≡ item_of text → ReadsJust read (IsItemText text)
item_read text read h = rw h (λ i. (item_sound text i, item_complete text i))
