-- The values that the moves give: what a move keeps it keeps again, and a register moved by an index.
use Rattle.typing_laws.proofs.Common.{◌≡◌, ◌≢◌, ℕ, ◌+◌, ◌*◌, ◌%◌, ◌^◌, ◌<◌, ◌≤◌, if◌then◌else◌, nat_lt, List, Option, Some, None, refl, sym}
use Rattle.typing_laws.proofs.Common.{ap, ◌∙◌, arith, option_map, pos, int_le, mod-eq_of_lt, int_eq, Decides-int_eq, Size, wrap64, Index}
use Rattle.typing_laws.proofs.Common.{type_of, FnNote, State, Ty, Distance, counted, with_index, constant, lin, with_index-known, Neutral}
use Rattle.typing_laws.proofs.Common.{Num, At, Junk, number, pair, plain, word, FunctionFrame, Frame, Config, TypedObject, World}
use Rattle.typing_laws.proofs.Common.{live_memory, is_kept_at, kept_natural, narrowed, index_pair, moved_by, Move, Offset, kept, mod_below}
use Rattle.typing_laws.proofs.Common.{Notes, cond_both}
use Rattle.rules_base.specs.Operands.{distance_type}
use Rattle.rules_laws.proofs.MovesKeep.{distance_type-known}
use Rattle.neutral_machine.specs.Operations.{on_number}
use Rattle.typing_laws.proofs.Rows.{same_fits, wraps, units_fit, choice_fits}
use Rattle.typing_laws.proofs.Context.{TopSound, objects, FitsHere, seen}
use Rattle.typing_laws.proofs.{SumsFit.sum_fits, KeptFit.kept_fits, Operands.OperandFits, Operands.register_fits}
use Rattle.rules_base.specs.Kept as rules

-- ---- a move keeps what it kept

narrowed_twice : (bits : ℕ) (v : Neutral) → 2 ^ bits ≤ 2 ^ 64 → 0 < 2 ^ bits → narrowed bits (narrowed bits v) ≡ narrowed bits v
narrowed_twice bits v h p = go (plain v)
  where
    go : (o : Option ℕ) → narrowed bits (on_number (λ x. x % 2 ^ bits) o) ≡ on_number (λ x. x % 2 ^ bits) o
    go None = refl
    go (Some x) = ap number (again x (2 ^ bits) h p)
      where
        again : (x n : ℕ) → n ≤ 2 ^ 64 → 0 < n → word (x % n) % n ≡ x % n
        again x n h p = let l = mod_below x n p in ap (λ z. z % n) (let e : word (x % n) ≡ x % n = omega (arith, l, h) in e)
            ∙ mod-eq_of_lt l

pub natural_twice : (notes : Notes) (os : List TypedObject) (v : Neutral)
    → kept_natural notes os (kept_natural notes os v) ≡ kept_natural notes os v
unfolding kept_natural
natural_twice notes os (Num n c) = cond_both (nat_lt (word (n * 4 + c)) (2 ^ 32)) (Num n c) Junk (λ z. kept_natural notes os z ≡ z)
    (λ e. ap (λ b. if b then Num n c else Junk) e) (λ _. refl)
natural_twice notes os (At a n c) = cond_both (is_kept_at notes os a n c) (At a n c) Junk (λ z. kept_natural notes os z ≡ z)
    (λ e. ap (λ b. if b then At a n c else Junk) e) (λ _. refl)
natural_twice notes os v = refl

-- What a move keeps it keeps again.
pub kept_twice : (notes : Notes) (os : List TypedObject) (size : Size) (v : Neutral)
    → kept notes os (Move size) (kept notes os (Move size) v) ≡ kept notes os (Move size) v
kept_twice notes os Size.Byte v = narrowed_twice 8 v (omega arith) (omega arith)
kept_twice notes os Size.Word v = narrowed_twice 16 v (omega arith) (omega arith)
kept_twice notes os Size.Dword v = narrowed_twice 32 v (omega arith) (omega arith)
kept_twice notes os Size.Qword v = refl
kept_twice notes os Size.Natural v = natural_twice notes os v

module _ {world : World} {a : Config} {f : FunctionFrame} {fs : List Frame} {note : FnNote} {s : State}
    (st : TopSound world a f fs note s) where
  -- what an index adds
  pub distance_fits : (i : Index) → FitsHere st (distance_type (counted i)) (Num (index_pair i).n (index_pair i).c)
  distance_fits i = go (counted i)
    where
      go : (d : Distance) → FitsHere st (distance_type d) (pair d.n d.c)
      go d = choice_fits (seen st) (int_eq d.n (pos 0)) (constant (wrap64 d.c)) (if int_le (pos 1) d.n then lin d.n d.c else Ty.Any)
          (pair d.n d.c) (λ e. same_fits (seen st) (wrap64 d.c) (wrap64 d.c) (pair d.n d.c)
          (ap (λ n. Num (wrap64 n) (wrap64 d.c)) ((Decides-int_eq d.n (pos 0)).0 e)) (wraps d.c)) (λ _. units_fit (seen st) d.n d.c)

  -- A register's value moved by the index beside it, as a move keeps it.
  pub moved_fits : (size : Size) (r : ℕ) (i : Option Index) → r ≢ 0 → r < 8
      → FitsHere st (rules.kept size (with_index world.notes.shape (type_of s r) i))
      (kept world.notes (live_memory world a).objects (Move size) (moved_by (a.registers r) (option_map index_pair i)))
  moved_fits size r i n l =
      kept_fits (seen st) (objects st) size (with_index world.notes.shape (type_of s r) i) _
      (with_index-known world.notes note world.notes.shape (type_of s r) i (st.state.registers r)).bounded (beside i)
    where
      beside : (i : Option Index) → FitsHere st (with_index world.notes.shape (type_of s r) i)
          (moved_by (a.registers r) (option_map index_pair i))
      beside None = register_fits st r n l
      beside (Some i) = sum_fits (seen st) (type_of s r) (distance_type (counted i))
          (a.registers r) (Num (index_pair i).n (index_pair i).c) (st.state.registers r).bounded
          (distance_type-known world.notes note (counted i)).bounded (register_fits st r n l) (distance_fits i)

  -- What a move loads it keeps.
  pub loaded_kept : (size : Size) (r : ℕ) (b : Option Offset) (t : Ty) (q : OperandFits st (Move size) r b t)
      → kept world.notes (live_memory world a).objects (Move size) q.value ≡ q.value
  loaded_kept size r b t q = ap (kept world.notes (live_memory world a).objects (Move size)) q.is
      ∙ kept_twice world.notes (live_memory world a).objects size q.whole ∙ sym q.is
