-- Laws of argument slots: what tells them, and what one slot more makes of them.
use Rattle.std.proofs.Common.{◌≡◌, ℕ, suc, ◌+◌, ◌%◌, ◌^◌, ◌<◌, ◌≤◌, true, false, if◌then◌else◌, List, [], ◌∷◌, ◌++◌, length, drop, get_or}
use Rattle.std.proofs.Common.{refl, sym, ap, ap₂, subst, ◌∙◌, arith, Option, Some, None, add-one, append_assoc}
use Rattle.std.specs.Prelude.{is_some}
use Rattle.std.specs.Option.{option_map}
use Rattle.std.proofs.Math.Seq.{drop-cons}
use Rattle.std.proofs.lemmas.List.{append-nil, length_push, drop_all}
use Rattle.std.proofs.lemmas.Option.{same_Some}
use Rattle.ebc_width.specs.Width.{IsWidth, cut_at}
use Rattle.ebc_width.specs.Bytes.{little_endian}
use Rattle.ebc_width.specs.Ranges.{holds}
use Rattle.ebc_width.proofs.Laws.{cut_at-mod_64}
use Rattle.object_memory.specs.Memory.{Memory, ranges, byte_at, held_number}
use Rattle.note_types.specs.Concrete.{Concrete, loaded}
use Rattle.note_types.specs.declared.notes.WantParam.{WantParam}
use Rattle.host_model.specs.Placements.{slot_bytes}
use Rattle.host_model.specs.Readings.{before_all, slots_from}
use Rattle.callex_thunk.specs.Slots.{memory_state}

-- ---- what tells slots

-- only the memory of a state counts
pub slots_from-agree : (w : ℕ) (s t : Concrete) (r : ℕ) (ps : List WantParam) → s.objects ≡ t.objects → s.byte ≡ t.byte
    → slots_from w s r ps ≡ slots_from w t r ps
unfolding slots_from loaded
slots_from-agree w s t r [] objects byte = refl
slots_from-agree w s t r (p ∷ ps) objects byte =
    ap₂ before_all
    (ap₂ (λ os b. if holds os (cut_at w r) (slot_bytes w p.kind) then Some (little_endian b (cut_at w r) (slot_bytes w p.kind))
    else None) objects byte)
    (slots_from-agree w s t (r + slot_bytes w p.kind) ps objects byte)

-- addresses count modulo 2 ^ 64
pub slots_from-word : (w : ℕ) (s : Concrete) (r : ℕ) (ps : List WantParam) → IsWidth w
    → slots_from w s (r % 2 ^ 64) ps ≡ slots_from w s r ps
unfolding slots_from
slots_from-word w s r [] width = refl
slots_from-word w s r (p ∷ ps) width =
    let sum : (r % 2 ^ 64 + slot_bytes w p.kind) % 2 ^ 64 ≡ (r + slot_bytes w p.kind) % 2 ^ 64 = omega arith in
    ap₂ before_all
    (ap (λ a. loaded s a (slot_bytes w p.kind)) (cut_at-mod_64 w r width))
    (sym (slots_from-word w s (r % 2 ^ 64 + slot_bytes w p.kind) ps width)
    ∙ (ap (λ a. slots_from w s a ps) sum ∙ slots_from-word w s (r + slot_bytes w p.kind) ps width))

-- ---- one slot after the other

-- the slots from that of parameter i on, which has n bytes
slots_from-drop : (w : ℕ) (s : Concrete) (r i n : ℕ) (ps : List WantParam) (d : WantParam) → IsWidth w → i < length ps
    → n ≡ slot_bytes w (get_or ps i d).kind
    → slots_from w s r (drop i ps) ≡ before_all (loaded s (cut_at w r) n) (slots_from w s ((r + n) % 2 ^ 64) (drop (i + 1) ps))
unfolding slots_from
slots_from-drop w s r i n ps d width less bytes =
    ap (slots_from w s r) (drop-cons ps i d less)
    ∙ (ap (λ k. before_all (loaded s (cut_at w r) k) (slots_from w s (r + k) (drop (suc i) ps))) (sym bytes)
    ∙ (ap (λ qs. before_all (loaded s (cut_at w r) n) (slots_from w s (r + n) qs)) (ap (λ k. drop k ps) (sym (add-one i)))
    ∙ ap (before_all (loaded s (cut_at w r) n)) (sym (slots_from-word w s (r + n) (drop (i + 1) ps) width))))

before_none : (rest : Option (List ℕ)) (first : Option ℕ) → first ≡ None → is_some (before_all first rest) ≡ false
before_none rest first none = ap (λ o. is_some (before_all o rest)) none

before_some : (rest : Option (List ℕ)) (first : Option ℕ) (x : ℕ) → first ≡ Some x → is_some (before_all first rest) ≡ is_some rest
before_some rest first x some = ap (λ o. is_some (before_all o rest)) some ∙ each rest
  where
    each : (o : Option (List ℕ)) → is_some (option_map (λ xs. x ∷ xs) o) ≡ is_some o
    each None = refl
    each (Some xs) = refl

loaded-held : (m : Memory) (a k : ℕ) → holds (ranges m) a k ≡ true → loaded (memory_state m) a k ≡ Some (little_endian (byte_at m) a k)
unfolding loaded
loaded-held m a k held = rw held refl

loaded-absent : (m : Memory) (a k : ℕ) → holds (ranges m) a k ≡ false → loaded (memory_state m) a k ≡ None
unfolding loaded
loaded-absent m a k absent = rw absent refl

pub loaded-number : (m : Memory) (a k : ℕ) → held_number m a k ≡ loaded (memory_state m) a k
unfolding held_number loaded
loaded-number m a k = refl

-- a slot that is mapped
pub mapped-step : (w : ℕ) (m : Memory) (r i n : ℕ) (ps : List WantParam) (d : WantParam) → IsWidth w → i < length ps
    → n ≡ slot_bytes w (get_or ps i d).kind
    → holds (ranges m) (cut_at w r) n ≡ true
    → is_some (slots_from w (memory_state m) ((r + n) % 2 ^ 64) (drop (i + 1) ps)) ≡ is_some (slots_from w (memory_state m) r (drop i ps))
mapped-step w m r i n ps d width less bytes held =
    sym (ap is_some (slots_from-drop w (memory_state m) r i n ps d width less bytes)
    ∙ before_some (slots_from w (memory_state m) ((r + n) % 2 ^ 64) (drop (i + 1) ps)) _ _ (loaded-held m (cut_at w r) n held))

-- and one that isn't
pub mapped-stop : (w : ℕ) (m : Memory) (r i n : ℕ) (ps : List WantParam) (d : WantParam) → IsWidth w → i < length ps
    → n ≡ slot_bytes w (get_or ps i d).kind
    → holds (ranges m) (cut_at w r) n ≡ false → is_some (slots_from w (memory_state m) r (drop i ps)) ≡ false
mapped-stop w m r i n ps d width less bytes absent =
    ap is_some (slots_from-drop w (memory_state m) r i n ps d width less bytes)
    ∙ before_none (slots_from w (memory_state m) ((r + n) % 2 ^ 64) (drop (i + 1) ps)) _ (loaded-absent m (cut_at w r) n absent)

-- past the last slot there is nothing that isn't mapped
pub mapped-end : (w : ℕ) (s : Concrete) (r i : ℕ) (ps : List WantParam) → length ps ≤ i → is_some (slots_from w s r (drop i ps)) ≡ true
unfolding slots_from
mapped-end w s r i ps last = ap (λ qs. is_some (slots_from w s r qs)) (drop_all i ps last)

-- ---- slots that are copied

-- So many slots are done, which hold these numbers, and the others are still there.
pub record IsAlong (w : ℕ) (s : Concrete) (first : ℕ) (ps : List WantParam) (r i : ℕ) (done rest : List ℕ) : Type 0 where
  pub all : slots_from w s first ps ≡ Some (done ++ rest)
  pub left : slots_from w s r (drop i ps) ≡ Some rest
  pub count : length done ≡ i

pub along-start : (w : ℕ) (s : Concrete) (r : ℕ) (ps : List WantParam) (xs : List ℕ) → slots_from w s r ps ≡ Some xs
    → IsAlong w s r ps r 0 [] xs
along-start w s r ps xs are = record { all = are; left = are; count = refl }

-- the next slot, and the numbers after it
before-parts : (first : Option ℕ) (rest : Option (List ℕ)) (xs : List ℕ) → before_all first rest ≡ Some xs
    → (x : ℕ) × (ys : List ℕ) × (first ≡ Some x) × (rest ≡ Some ys) × (xs ≡ x ∷ ys)
before-parts None rest xs is = absurd (cc)
before-parts (Some x) None xs is = absurd (cc)
before-parts (Some x) (Some ys) xs is = (x, ys, refl, refl, sym (same_Some (x ∷ ys) xs is))

pub along-next : (w : ℕ) (s : Concrete) (first : ℕ) (ps : List WantParam) (r i n : ℕ) (done rest : List ℕ) (d : WantParam) → IsWidth w
    → i < length ps → n ≡ slot_bytes w (get_or ps i d).kind
    → IsAlong w s first ps r i done rest
    → (x : ℕ) × (ys : List ℕ) × (loaded s (cut_at w r) n ≡ Some x) × IsAlong w s first ps ((r + n) % 2 ^ 64) (i + 1) (done ++ x ∷ []) ys
along-next w s first ps r i n done rest d width less bytes along =
    let parts = before-parts (loaded s (cut_at w r) n) (slots_from w s ((r + n) % 2 ^ 64) (drop (i + 1) ps)) rest
    (sym (slots_from-drop w s r i n ps d width less bytes) ∙ along.left) in (
      parts.0,
      parts.1,
      parts.2,
      record {
        all = along.all ∙ ap (λ ys. Some (done ++ ys)) parts.4 ∙ ap Some (sym (append_assoc done (parts.0 ∷ []) parts.1));
        left = parts.3;
        count = length_push done parts.0 ∙ ap (λ k. k + 1) along.count;
      },
    )

-- the same where the slot's number is known
pub along-number : (w : ℕ) (s : Concrete) (first : ℕ) (ps : List WantParam) (r i n x : ℕ) (done rest : List ℕ) (d : WantParam) → IsWidth w
    → i < length ps → n ≡ slot_bytes w (get_or ps i d).kind
    → loaded s (cut_at w r) n ≡ Some x → IsAlong w s first ps r i done rest
    → (ys : List ℕ) × IsAlong w s first ps ((r + n) % 2 ^ 64) (i + 1) (done ++ x ∷ []) ys
along-number w s first ps r i n x done rest d width less bytes is along =
    let next = along-next w s first ps r i n done rest d width less bytes along in (
      next.1,
      subst (λ y. IsAlong w s first ps ((r + n) % 2 ^ 64) (i + 1) (done ++ y ∷ []) next.1)
          (same_Some next.0 x (sym next.2 ∙ is)) next.3,
    )

-- all are done
pub along-end : (w : ℕ) (s : Concrete) (first : ℕ) (ps : List WantParam) (r i : ℕ) (done rest : List ℕ) → length ps ≤ i
    → IsAlong w s first ps r i done rest → slots_from w s first ps ≡ Some done
unfolding slots_from
along-end w s first ps r i done rest last along =
    let none : Some [] ≡ Some rest = sym (ap (slots_from w s r) (drop_all i ps last)) ∙ along.left in
    along.all ∙ ap (λ ys. Some (done ++ ys)) (sym (same_Some [] rest none)) ∙ ap Some (append-nil done)
