-- Which rule is the first that fails at an instruction in a round, by what was found there.
use Rattle.note_infer.proofs.Common.{◌≡◌, ◌⊎◌, ℕ, ◌≤◌, List, refl, sym, subst, ◌∙◌, ⊎_elim, arith, inl, inr, Err, Ok, Insn, FnNote, Notes}
use Rattle.note_infer.proofs.Common.{RuleName, State, Image, IsFirst, OrRule, Successors, EndHolds, IsDecoded, PointHolds, RelocationHolds}
use Rattle.note_infer.proofs.Common.{reloc_at, decoded_once, here_at, row_of, Clashes, FailsIn, States, fails_below, fails_decode}
use Rattle.note_infer.proofs.Common.{fails_end, fails_point, fails_relocation, fails_row, marked}
use Rattle.rules_base.specs.Outcomes.{number_of_rule}
use Rattle.note_types.specs.declared.rule.RuleName.TheVariants as rule

last_rule : (r : RuleName) → number_of_rule r ≤ 23
last_rule rule.Shape = omega arith
last_rule rule.Function = omega arith
last_rule rule.Static = omega arith
last_rule rule.Decode = omega arith
last_rule rule.State = omega arith
last_rule rule.Point = omega arith
last_rule rule.Relocation = omega arith
last_rule rule.Form = omega arith
last_rule rule.Stack = omega arith
last_rule rule.Address = omega arith
last_rule rule.Null = omega arith
last_rule rule.Unwritten = omega arith
last_rule rule.Store = omega arith
last_rule rule.Compare = omega arith
last_rule rule.Divide = omega arith
last_rule rule.Target = omega arith
last_rule rule.Site = omega arith
last_rule rule.Level = omega arith
last_rule rule.Thunk = omega arith
last_rule rule.Arguments = omega arith
last_rule rule.Return = omega arith
last_rule rule.Below = omega arith
last_rule rule.End = omega arith

-- a rule comes no later than another one that is named
by_name : (r q named : RuleName) → q ≡ named → number_of_rule r ≤ number_of_rule named → number_of_rule r ≤ number_of_rule q
by_name r q named e h = subst (λ x. number_of_rule r ≤ number_of_rule x) (sym e) h

same_rule : (a : OrRule Successors) (r q : RuleName) → a ≡ Err r → a ≡ Err q → r ≡ q
same_rule a r q e g = cc

row_apart : (a : OrRule Successors) (x : Successors) (r : RuleName) → a ≡ Ok x → a ≡ Err r → ⊥
row_apart a x r e g = cc

row_same : (a : OrRule Successors) (x y : Successors) → a ≡ Ok x → a ≡ Ok y → x ≡ y
row_same a x y e g = cc

module _ (image : Image) (notes : Notes) (leaders : List ℕ) (states : States) (func : ℕ) (f : FnNote) (place : ℕ) (s : State) where
  -- no instruction is there
  pub no_insn : ((i : Insn) (next : ℕ) → IsDecoded image f place i next → ⊥)
      → IsFirst (FailsIn image notes leaders states func f place s) rule.Decode
  no_insn none = record { among = fails_decode (λ x. none x.insn x.next x.decode) refl; first = first }
    where
      first : (q : RuleName) → FailsIn image notes leaders states func f place s q → 4 ≤ number_of_rule q
      first q (fails_decode miss e) = by_name rule.Decode q rule.Decode e (omega arith)
      first q (fails_point i next d miss e) = absurd (none i next d)
      first q (fails_relocation i next d miss e) = absurd (none i next d)
      first q (fails_row i next d p r row) = absurd (none i next d)
      first q (fails_below i next x d row miss e) = absurd (none i next d)
      first q (fails_end i next d miss e) = absurd (none i next d)

  module _ (i : Insn) (next : ℕ) (d : IsDecoded image f place i next) where
    -- what is said of the instruction there is said of this one
    of_insn : (P : Insn → ℕ → Type 0) (j : Insn) (m : ℕ) → IsDecoded image f place j m → P i next → P j m
    of_insn P j m b h = let same = decoded_once image f place i j next m d b in subst (λ x. P x m) same.0 (subst (λ x. P i x) same.1 h)

    same_rows : (j : Insn) (m : ℕ) → IsDecoded image f place j m
        → row_of (marked notes leaders) (here_at image func place next) s i ≡ row_of (marked notes leaders) (here_at image func place m) s j
    same_rows j m b =
        of_insn (λ x k. row_of (marked notes leaders) (here_at image func place next) s i
        ≡ row_of (marked notes leaders) (here_at image func place k) s x) j m b refl

    -- a leader is inside
    pub point_inside : ¬ PointHolds (marked notes leaders) place next
        → IsFirst (FailsIn image notes leaders states func f place s) rule.Point
    point_inside none = record { among = fails_point i next d none refl; first = first }
      where
        first : (q : RuleName) → FailsIn image notes leaders states func f place s q → 6 ≤ number_of_rule q
        first q (fails_decode miss e) = absurd (miss (record { insn = i; next = next; decode = d }))
        first q (fails_point j m b miss e) = by_name rule.Point q rule.Point e (omega arith)
        first q (fails_relocation j m b miss e) = by_name rule.Point q rule.Relocation e (omega arith)
        first q (fails_row j m b p r row) = absurd (of_insn (λ x k. ¬ PointHolds (marked notes leaders) place k) j m b none p)
        first q (fails_below j m x b row miss e) = by_name rule.Point q rule.Below e (omega arith)
        first q (fails_end j m b miss e) = by_name rule.Point q rule.End e (omega arith)

    module _ (point : PointHolds (marked notes leaders) place next) where
      -- the relocation isn't allowed
      pub not_relocated : ¬ RelocationHolds image notes place i next (reloc_at image next)
          → IsFirst (FailsIn image notes leaders states func f place s) rule.Relocation
      not_relocated none = record { among = fails_relocation i next d none refl; first = first }
        where
          first : (q : RuleName) → FailsIn image notes leaders states func f place s q → 7 ≤ number_of_rule q
          first q (fails_decode miss e) = absurd (miss (record { insn = i; next = next; decode = d }))
          first q (fails_point j m b miss e) = absurd (miss (of_insn (λ x k. PointHolds (marked notes leaders) place k) j m b point))
          first q (fails_relocation j m b miss e) = by_name rule.Relocation q rule.Relocation e (omega arith)
          first q (fails_row j m b p r row) = absurd (of_insn
              (λ x k. ¬ RelocationHolds image notes place x k (reloc_at image k)) j m b none r)
          first q (fails_below j m x b row miss e) = by_name rule.Relocation q rule.Below e (omega arith)
          first q (fails_end j m b miss e) = by_name rule.Relocation q rule.End e (omega arith)

      module _ (reloc : RelocationHolds image notes place i next (reloc_at image next)) where
        abbrev Row : OrRule Successors
        Row = row_of (marked notes leaders) (here_at image func place next) s i

        -- the rule that fails is then that of the row, or one of the two after it
        from_row : (q : RuleName) → FailsIn image notes leaders states func f place s q
            → (Row ≡ Err q)
            ⊎ (((y : Successors) × (Row ≡ Ok y) × Clashes image notes leaders states func f place next y × (q ≡ rule.Below))
            ⊎ (q ≡ rule.End))
        from_row q (fails_decode miss e) = absurd (miss (record { insn = i; next = next; decode = d }))
        from_row q (fails_point j m b miss e) = absurd (miss (of_insn (λ x k. PointHolds (marked notes leaders) place k) j m b point))
        from_row q (fails_relocation j m b miss e) = absurd (miss
            (of_insn (λ x k. RelocationHolds image notes place x k (reloc_at image k)) j m b reloc))
        from_row q (fails_row j m b p l row) = inl (same_rows j m b ∙ row)
        from_row q (fails_below j m y b row clash e) =
            let ends = decoded_once image f place j i m next b d in
            inr (inl (y, same_rows j m b ∙ row, subst (λ n. Clashes image notes leaders states func f place n y) ends.1 clash, e))
        from_row q (fails_end j m b miss e) = inr (inr e)

        -- the row fails
        pub row_fails : (r : RuleName) → row_of (marked notes leaders) (here_at image func place next) s i ≡ Err r
            → IsFirst (FailsIn image notes leaders states func f place s) r
        row_fails r row = record {
          among = fails_row i next d point reloc row;
          first = λ q h.
              ⊎_elim (λ again. let same : r ≡ q = same_rule _ r q row again in
              subst (λ x. number_of_rule r ≤ number_of_rule x) same (omega arith))
              (λ rest. ⊎_elim (λ b. absurd (row_apart _ b.0 r b.1 row)) (λ e. by_name r q rule.End e (last_rule r)) rest)
              (from_row q h);
        }

        module _ (x : Successors) (row : row_of (marked notes leaders) (here_at image func place next) s i ≡ Ok x) where
          -- what is given clashes
          pub clashes : Clashes image notes leaders states func f place next x
              → IsFirst (FailsIn image notes leaders states func f place s) rule.Below
          clashes clash = record {
            among = fails_below i next x d row clash refl;
            first = λ q h.
                ⊎_elim (λ again. absurd (row_apart _ x q row again))
                (λ rest. ⊎_elim (λ b. by_name rule.Below q rule.Below b.3 (omega arith))
                (λ e. by_name rule.Below q rule.End e (omega arith)) rest)
                (from_row q h);
          }

          -- control leaves the function
          pub falls_out : (Clashes image notes leaders states func f place next x → ⊥) → ¬ EndHolds f i next
              → IsFirst (FailsIn image notes leaders states func f place s) rule.End
          falls_out fine none = record {
            among = fails_end i next d none refl;
            first = λ q h.
                ⊎_elim (λ again. absurd (row_apart _ x q row again))
                (λ rest. ⊎_elim (λ b. absurd (fine (subst (λ z. Clashes image notes leaders states func f place next z)
                (sym (row_same _ x b.0 row b.1)) b.2)))
                (λ e. by_name rule.End q rule.End e (omega arith)) rest)
                (from_row q h);
          }
