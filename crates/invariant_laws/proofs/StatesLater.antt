-- A frame that fits a state goes on to fit it in a later memory, with the same registers and the same C.
use Rattle.invariant_laws.proofs.Common.{◌≡◌, ℕ, Bool, true, List, Option, Some, None, slice_get, refl, ap, ◌∙◌, none-some, type_of, Notes}
use Rattle.invariant_laws.proofs.Common.{State, Neutral, At, ObjectOf, LocalOf, number, TypedObject, Registers, FunctionFrame, FitsState}
use Rattle.invariant_laws.proofs.Common.{Memory, compared_as, instance_of, without_local, Later}
use Rattle.std.specs.Option.{option_or}
use Rattle.ebc_insn.specs.declared.CmpOp.{CmpOp}
use Rattle.host_model.specs.Values.{plain}
use Rattle.neutral_machine.specs.Operations.{compared_by, compared_wide, equal_instances, starts_if}
use Rattle.invariant_laws.proofs.LaterFits.{fields_later, fits_later, items_later, written_later}
use Rattle.ebc_insn.specs.declared.CmpOp.TheVariants as cmps

-- ---- comparisons with a number

-- a value that a comparison with a number looks at is no address of locals
pub compared_stays : (notes : Notes) (os : List TypedObject) (op : CmpOp) (e k : ℕ) (c : Bool) (v : Neutral)
    → compared_as notes os op true v (number k) ≡ Some c → without_local e v ≡ v
unfolding compared_as instance_of
compared_stays notes os cmps.Eq e k c (At (LocalOf d f) n m) h = absurd (none-some c h)
compared_stays notes os cmps.Lte e k c (At (LocalOf d f) n m) h = absurd (none-some c h)
compared_stays notes os cmps.Gte e k c (At (LocalOf d f) n m) h = absurd (none-some c h)
compared_stays notes os cmps.Ulte e k c (At (LocalOf d f) n m) h = absurd (none-some c h)
compared_stays notes os cmps.Ugte e k c (At (LocalOf d f) n m) h = absurd (none-some c h)
compared_stays notes os op e k c (At (ObjectOf i) n m) h = refl
compared_stays notes os op e k c v h = refl

module _ (notes : Notes) (os ps : List TypedObject)
    (stay : (k : ℕ) (o : TypedObject) → slice_get os k ≡ Some o → slice_get ps k ≡ Some o) where
  wide_later : (op : CmpOp) (k : ℕ) (c : Bool) (v : Neutral) → compared_wide notes os op v (number k) ≡ Some c
      → compared_wide notes ps op v (number k) ≡ Some c
  unfolding instance_of
  wide_later cmps.Eq k c (At (ObjectOf i) n m) h = go (slice_get os i) refl h
    where
      go : (o : Option TypedObject) → slice_get os i ≡ o
          → option_or (equal_instances (starts_if notes i n m o) None (number k)) None ≡ Some c
          → option_or (equal_instances (starts_if notes i n m (slice_get ps i)) None (number k)) None ≡ Some c
      go None e h = absurd (none-some c h)
      go (Some o) e h = ap (λ z. option_or (equal_instances (starts_if notes i n m z) None (number k)) None) (stay i o e) ∙ h
  wide_later t k c v h = h

  -- a comparison with a number goes on to give the same
  compared_later : (op : CmpOp) (k : ℕ) (c : Bool) (v : Neutral) → compared_as notes os op true v (number k) ≡ Some c
      → compared_as notes ps op true v (number k) ≡ Some c
  unfolding compared_as
  compared_later op k c v h = go (plain v) h
    where
      go : (o : Option ℕ) → compared_by notes os op true v (number k) o (plain (number k)) ≡ Some c
          → compared_by notes ps op true v (number k) o (plain (number k)) ≡ Some c
      go None h = wide_later op k c v h
      go (Some x) h = h

-- ---- the state

pub state_later : (notes : Notes) (d : ℕ) (U V : Memory) (f : FunctionFrame) (s : State) (regs : Registers) (c : Bool) (made : ℕ)
    → Later d U V → FitsState notes U d f s regs c made → FitsState notes V d f s regs c made
state_later notes d U V f s regs c made l x =
    let m = fields_later notes d U V l in
    record {
      registers = λ r p q. fits_later notes d U V m f.saved (type_of s r) (regs r) (x.registers r p q);
      items = items_later notes d U V m f f.items s.items x.items;
      written = written_later notes d U V m s.written x.written;
      made_are = x.made_are;
      fact = λ z h. record {
        gave = compared_later notes U.objects V.objects l.objects z.op z.k c (regs z.reg) (x.fact z h).gave;
      };
    }
