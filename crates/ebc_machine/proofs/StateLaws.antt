-- What changes a part of a state leaves it one that a machine can be in.
use Rattle.std.proofs.Common.{◌≡◌, ℕ, zero, suc, ◌+◌, ◌^◌, ◌<◌, ◌≤◌, ◌⊎◌, inl, inr, ⊎_elim, Bool, true, false, if◌then◌else◌, List, [], ◌∷◌}
use Rattle.std.proofs.Common.{Some, None, refl, subst, sym, ◌∙◌, arith}
use Rattle.std.specs.Prelude.{slice_index, slice_set}
use Rattle.std.proofs.lemmas.List.{length-set}
use Rattle.std.proofs.lemmas.Option.{same_Some}
use Rattle.std.proofs.lemmas.Bool.{cases_lt, true≢false}
use Rattle.ebc_width.specs.Bytes.{put}
use Rattle.ebc_width.specs.Ranges.{Range, holds}
use Rattle.ebc_width.proofs.ByteLaws.{put-apart, put-below}
use Rattle.ebc_width.proofs.RangeLaws.{holds-within}
use Rattle.note_types.specs.Concrete.{Concrete, IsConcrete, stored, with_register, at_ip, with_flags}

registers_set : (xs : List ℕ) (r v : ℕ) → ((i : ℕ) → slice_index xs i < 2 ^ 64) → v < 2 ^ 64 → (i : ℕ)
    → slice_index (slice_set xs r v) i < 2 ^ 64
registers_set [] r v each below i = each i
registers_set (x ∷ xs) zero v each below zero = below
registers_set (x ∷ xs) zero v each below (suc i) = each (suc i)
registers_set (x ∷ xs) (suc r) v each below zero = each 0
registers_set (x ∷ xs) (suc r) v each below (suc i) = registers_set xs r v (λ j. each (suc j)) below i

pub IsConcrete-with_register : (w : ℕ) (s : Concrete) (r v : ℕ) → IsConcrete w s → v < 2 ^ 64 → IsConcrete w (with_register s r v)
unfolding with_register
IsConcrete-with_register w s r v is below = record {
  width = is.width;
  eight = length-set s.registers r v ∙ is.eight;
  registers = registers_set s.registers r v is.registers below;
  ip = is.ip;
  gate = is.gate;
  flags = is.flags;
  bytes = is.bytes;
  zeros = is.zeros;
  inside = is.inside;
  apart = is.apart;
}

pub IsConcrete-at_ip : (w : ℕ) (s : Concrete) (ip : ℕ) → IsConcrete w s → ip < 2 ^ 64 → IsConcrete w (at_ip s ip)
unfolding at_ip
IsConcrete-at_ip w s ip is below = record {
  width = is.width;
  eight = is.eight;
  registers = is.registers;
  ip = below;
  gate = is.gate;
  flags = is.flags;
  bytes = is.bytes;
  zeros = is.zeros;
  inside = is.inside;
  apart = is.apart;
}

pub IsConcrete-with_flags : (w : ℕ) (s : Concrete) (flags : ℕ) → IsConcrete w s → flags < 4 → IsConcrete w (with_flags s flags)
unfolding with_flags
IsConcrete-with_flags w s flags is below = record {
  width = is.width;
  eight = is.eight;
  registers = is.registers;
  ip = is.ip;
  gate = is.gate;
  flags = below;
  bytes = is.bytes;
  zeros = is.zeros;
  inside = is.inside;
  apart = is.apart;
}

-- a byte that no object holds is not among those that one object holds
outside : (ranges : List Range) (a k x : ℕ) → holds ranges a k ≡ true → holds ranges x 1 ≡ false → (x < a) ⊎ (a + k ≤ x)
outside ranges a k x held none =
    ⊎_elim
    (λ below. inl below)
    (λ from. ⊎_elim
    (λ to. absurd (true≢false (sym (holds-within ranges a k x 1 held from (omega arith)) ∙ none)))
    (λ above. inr above)
    (cases_lt x (a + k)))
    (cases_lt x a)

IsConcrete-put : (w : ℕ) (s : Concrete) (a k v : ℕ) → IsConcrete w s → holds s.objects a k ≡ true
    → IsConcrete w (record s { byte = put s.byte a k v })
IsConcrete-put w s a k v is held = record {
  width = is.width;
  eight = is.eight;
  registers = is.registers;
  ip = is.ip;
  gate = is.gate;
  flags = is.flags;
  bytes = λ x. put-below s.byte a k v x (is.bytes x);
  zeros = λ x none. put-apart s.byte a k v x (outside s.objects a k x held none) ∙ is.zeros x none;
  inside = is.inside;
  apart = is.apart;
}

pub IsConcrete-stored : (w : ℕ) (s : Concrete) (a k v : ℕ) (after : Concrete) → IsConcrete w s → stored s a k v ≡ Some after
    → IsConcrete w after
unfolding stored
IsConcrete-stored w s a k v after is same = either (holds s.objects a k) (λ held. held) same
  where
    either : (held : Bool) → (held ≡ true → holds s.objects a k ≡ true)
        → (if held then Some (record s { byte = put s.byte a k v }) else None) ≡ Some after → IsConcrete w after
    either true held e = subst (IsConcrete w) (same_Some _ _ e) (IsConcrete-put w s a k v is (held refl))
    either false held e = absurd (cc)
