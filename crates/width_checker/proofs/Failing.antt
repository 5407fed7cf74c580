-- Which rule is the first that fails at a place, by what was found there.
use Rattle.width_checker.proofs.Common.{◌≡◌, ℕ, ◌≤◌, refl, sym, ap, subst, arith, Ok, Err, Insn, FnNote, Notes, RuleName, State, Image}
use Rattle.width_checker.proofs.Common.{IsFirst, IsDecoded, PointHolds, RelocationHolds, reloc_at, Successors, StateAt, here_at, row_of}
use Rattle.width_checker.proofs.Common.{BelowHolds, MeetsRules, FailsAt, HasState, decoded_once}
use Rattle.rules_base.specs.Outcomes.{number_of_rule, OrRule}
use Rattle.rules_image.specs.Images.{EndHolds}
use Rattle.width_checker.specs.Verdicts.{fails_below, fails_decode, fails_end, fails_point, fails_relocation, fails_row, fails_state}
use Rattle.width_checker.proofs.Leading.{OnePoint, state_one}
use Rattle.note_types.specs.declared.rule.RuleName.TheVariants as rule

last_rule : (r : RuleName) → number_of_rule r ≤ 23
last_rule rule.Shape = omega arith
last_rule rule.Function = omega arith
last_rule rule.Static = omega arith
last_rule rule.Decode = omega arith
last_rule rule.State = omega arith
last_rule rule.Point = omega arith
last_rule rule.Relocation = omega arith
last_rule rule.Form = omega arith
last_rule rule.Stack = omega arith
last_rule rule.Address = omega arith
last_rule rule.Null = omega arith
last_rule rule.Unwritten = omega arith
last_rule rule.Store = omega arith
last_rule rule.Compare = omega arith
last_rule rule.Divide = omega arith
last_rule rule.Target = omega arith
last_rule rule.Site = omega arith
last_rule rule.Level = omega arith
last_rule rule.Thunk = omega arith
last_rule rule.Arguments = omega arith
last_rule rule.Return = omega arith
last_rule rule.Below = omega arith
last_rule rule.End = omega arith

-- a rule comes no later than another one that is named
by_name : (r q named : RuleName) → q ≡ named → number_of_rule r ≤ number_of_rule named → number_of_rule r ≤ number_of_rule q
by_name r q named e h = subst (λ x. number_of_rule r ≤ number_of_rule x) (sym e) h

same_row : (a b : OrRule Successors) (r q : RuleName) → a ≡ b → a ≡ Err r → b ≡ Err q → r ≡ q
same_row a b r q e f g = cc

row_apart : (a b : OrRule Successors) (x : Successors) (r : RuleName) → a ≡ b → a ≡ Ok x → b ≡ Err r → ⊥
row_apart a b x r e f g = cc

row_same : (a b : OrRule Successors) (x y : Successors) → a ≡ b → a ≡ Ok x → b ≡ Ok y → x ≡ y
row_same a b x y e f g = cc

module _ (image : Image) (notes : Notes) (func : ℕ) (f : FnNote) (place : ℕ) where
  -- no instruction is there
  pub no_insn : ((i : Insn) (next : ℕ) → IsDecoded image f place i next → ⊥) → IsFirst (FailsAt image notes func f place) rule.Decode
  no_insn none = record {
    among = fails_decode (λ x. none x.insn x.next x.decode) refl;
    first = first;
  }
    where
      first : (q : RuleName) → FailsAt image notes func f place q → 4 ≤ number_of_rule q
      first q (fails_decode miss e) = by_name rule.Decode q rule.Decode e (omega arith)
      first q (fails_state miss e) = by_name rule.Decode q rule.State e (omega arith)
      first q (fails_point i next d miss e) = absurd (none i next d)
      first q (fails_relocation i next d miss e) = absurd (none i next d)
      first q (fails_row i next s d at p r row) = absurd (none i next d)
      first q (fails_below i next s x d at row miss e) = absurd (none i next d)
      first q (fails_end i next d miss e) = absurd (none i next d)

  -- an instruction is there, and no state before it
  pub no_state : (i : Insn) (next : ℕ) → IsDecoded image f place i next → ¬ HasState image notes func f place
      → IsFirst (FailsAt image notes func f place) rule.State
  no_state i next d none = record { among = fails_state none refl; first = first }
    where
      first : (q : RuleName) → FailsAt image notes func f place q → 5 ≤ number_of_rule q
      first q (fails_decode miss e) = absurd (miss (record { insn = i; next = next; decode = d }))
      first q (fails_state miss e) = by_name rule.State q rule.State e (omega arith)
      first q (fails_point j m b miss e) = by_name rule.State q rule.Point e (omega arith)
      first q (fails_relocation j m b miss e) = by_name rule.State q rule.Relocation e (omega arith)
      first q (fails_row j m s b at p r row) = absurd (none (s, at))
      first q (fails_below j m s x b at row miss e) = absurd (none (s, at))
      first q (fails_end j m b miss e) = by_name rule.State q rule.End e (omega arith)

  module _ (i : Insn) (next : ℕ) (d : IsDecoded image f place i next) (s : State) (at : StateAt image notes func f place s)
      (one : OnePoint notes) where
    -- what is said of the instruction there is said of this one
    of_insn : (P : Insn → ℕ → Type 0) (j : Insn) (m : ℕ) → IsDecoded image f place j m → P i next → P j m
    of_insn P j m b h = let same = decoded_once image f place i j next m d b in subst (λ x. P x m) same.0 (subst (λ x. P i x) same.1 h)

    same_rows : (j : Insn) (m : ℕ) (t : State) → IsDecoded image f place j m → StateAt image notes func f place t
        → row_of notes (here_at image func place next) s i ≡ row_of notes (here_at image func place m) t j
    same_rows j m t b there =
        let state : s ≡ t = state_one image notes func f one place s t at there in
        of_insn (λ x k. row_of notes (here_at image func place next) s i ≡ row_of notes (here_at image func place k) t x) j m b
        (ap (λ x. row_of notes (here_at image func place next) x i) state)

    -- a point is inside
    pub point_inside : ¬ PointHolds notes place next → IsFirst (FailsAt image notes func f place) rule.Point
    point_inside none = record { among = fails_point i next d none refl; first = first }
      where
        first : (q : RuleName) → FailsAt image notes func f place q → 6 ≤ number_of_rule q
        first q (fails_decode miss e) = absurd (miss (record { insn = i; next = next; decode = d }))
        first q (fails_state miss e) = absurd (miss (s, at))
        first q (fails_point j m b miss e) = by_name rule.Point q rule.Point e (omega arith)
        first q (fails_relocation j m b miss e) = by_name rule.Point q rule.Relocation e (omega arith)
        first q (fails_row j m t b there p r row) = absurd (of_insn (λ x k. ¬ PointHolds notes place k) j m b none p)
        first q (fails_below j m t x b there row miss e) = by_name rule.Point q rule.Below e (omega arith)
        first q (fails_end j m b miss e) = by_name rule.Point q rule.End e (omega arith)

    module _ (point : PointHolds notes place next) where
      -- the relocation isn't allowed
      pub not_relocated : ¬ RelocationHolds image notes place i next (reloc_at image next)
          → IsFirst (FailsAt image notes func f place) rule.Relocation
      not_relocated none = record { among = fails_relocation i next d none refl; first = first }
        where
          first : (q : RuleName) → FailsAt image notes func f place q → 7 ≤ number_of_rule q
          first q (fails_decode miss e) = absurd (miss (record { insn = i; next = next; decode = d }))
          first q (fails_state miss e) = absurd (miss (s, at))
          first q (fails_point j m b miss e) = absurd (miss (of_insn (λ x k. PointHolds notes place k) j m b point))
          first q (fails_relocation j m b miss e) = by_name rule.Relocation q rule.Relocation e (omega arith)
          first q (fails_row j m t b there p r row) = absurd (of_insn
              (λ x k. ¬ RelocationHolds image notes place x k (reloc_at image k)) j m b none r)
          first q (fails_below j m t x b there row miss e) = by_name rule.Relocation q rule.Below e (omega arith)
          first q (fails_end j m b miss e) = by_name rule.Relocation q rule.End e (omega arith)

      module _ (reloc : RelocationHolds image notes place i next (reloc_at image next)) where
        -- the row fails
        pub row_fails : (r : RuleName) → row_of notes (here_at image func place next) s i ≡ Err r
            → IsFirst (FailsAt image notes func f place) r
        row_fails r row = record { among = fails_row i next s d at point reloc row; first = first }
          where
            first : (q : RuleName) → FailsAt image notes func f place q → number_of_rule r ≤ number_of_rule q
            first q (fails_decode miss e) = absurd (miss (record { insn = i; next = next; decode = d }))
            first q (fails_state miss e) = absurd (miss (s, at))
            first q (fails_point j m b miss e) = absurd (miss (of_insn (λ x k. PointHolds notes place k) j m b point))
            first q (fails_relocation j m b miss e) = absurd (miss
                (of_insn (λ x k. RelocationHolds image notes place x k (reloc_at image k)) j m b reloc))
            first q (fails_row j m t b there p l again) =
                let same : r ≡ q = same_row _ _ r q (same_rows j m t b there) row again in
                subst (λ x. number_of_rule r ≤ number_of_rule x) same (omega arith)
            first q (fails_below j m t x b there again miss e) = absurd (row_apart _ _ x r (sym (same_rows j m t b there)) again row)
            first q (fails_end j m b miss e) = by_name r q rule.End e (last_rule r)

        module _ (x : Successors) (row : row_of notes (here_at image func place next) s i ≡ Ok x) where
          of_row : (P : ℕ → Successors → Type 0) (j : Insn) (m : ℕ) (t : State) (y : Successors) → IsDecoded image f place j m
              → StateAt image notes func f place t
              → row_of notes (here_at image func place m) t j ≡ Ok y → P next x → P m y
          of_row P j m t y b there again h =
              let same : x ≡ y = row_same _ _ x y (same_rows j m t b there) row again in
              subst (λ z. P m z) same (subst (λ k. P k x) (decoded_once image f place i j next m d b).1 h)

          -- a state that it leads to isn't below that of a point
          pub not_below : ¬ BelowHolds notes func f place next x → IsFirst (FailsAt image notes func f place) rule.Below
          not_below none = record { among = fails_below i next s x d at row none refl; first = first }
            where
              first : (q : RuleName) → FailsAt image notes func f place q → 22 ≤ number_of_rule q
              first q (fails_decode miss e) = absurd (miss (record { insn = i; next = next; decode = d }))
              first q (fails_state miss e) = absurd (miss (s, at))
              first q (fails_point j m b miss e) = absurd (miss (of_insn (λ y k. PointHolds notes place k) j m b point))
              first q (fails_relocation j m b miss e) = absurd (miss
                  (of_insn (λ y k. RelocationHolds image notes place y k (reloc_at image k)) j m b reloc))
              first q (fails_row j m t b there p l again) = absurd (row_apart _ _ x q (same_rows j m t b there) row again)
              first q (fails_below j m t y b there again miss e) = by_name rule.Below q rule.Below e (omega arith)
              first q (fails_end j m b miss e) = by_name rule.Below q rule.End e (omega arith)

          module _ (below : BelowHolds notes func f place next x) where
            -- control leaves the function
            pub falls_out : ¬ EndHolds f i next → IsFirst (FailsAt image notes func f place) rule.End
            falls_out none = record { among = fails_end i next d none refl; first = first }
              where
                first : (q : RuleName) → FailsAt image notes func f place q → 23 ≤ number_of_rule q
                first q (fails_decode miss e) = absurd (miss (record { insn = i; next = next; decode = d }))
                first q (fails_state miss e) = absurd (miss (s, at))
                first q (fails_point j m b miss e) = absurd (miss (of_insn (λ y k. PointHolds notes place k) j m b point))
                first q (fails_relocation j m b miss e) = absurd
                    (miss (of_insn (λ y k. RelocationHolds image notes place y k (reloc_at image k)) j m b reloc))
                first q (fails_row j m t b there p l again) = absurd (row_apart _ _ x q (same_rows j m t b there) row again)
                first q (fails_below j m t y b there again miss e) =
                    absurd (miss (of_row (λ k z. BelowHolds notes func f place k z) j m t y b there again below))
                first q (fails_end j m b miss e) = by_name rule.End q rule.End e (omega arith)

            -- all hold, so none fails
            pub none_fails : EndHolds f i next → (q : RuleName) → FailsAt image notes func f place q → ⊥
            none_fails ends q (fails_decode miss e) = miss (record { insn = i; next = next; decode = d })
            none_fails ends q (fails_state miss e) = miss (s, at)
            none_fails ends q (fails_point j m b miss e) = miss (of_insn (λ y k. PointHolds notes place k) j m b point)
            none_fails ends q (fails_relocation j m b miss e) =
                miss (of_insn (λ y k. RelocationHolds image notes place y k (reloc_at image k)) j m b reloc)
            none_fails ends q (fails_row j m t b there p l again) = row_apart _ _ x q (same_rows j m t b there) row again
            none_fails ends q (fails_below j m t y b there again miss e) =
                miss (of_row (λ k z. BelowHolds notes func f place k z) j m t y b there again below)
            none_fails ends q (fails_end j m b miss e) = miss (of_insn (λ y k. EndHolds f y k) j m b ends)

-- at a place that meets its rules none fails
pub meets_all : (image : Image) (notes : Notes) (func : ℕ) (f : FnNote) (place : ℕ) → OnePoint notes → MeetsRules image notes func f place
    → (q : RuleName) → FailsAt image notes func f place q → ⊥
meets_all image notes func f place one m =
    none_fails image notes func f place m.insn m.next m.decode m.state m.has_state one m.point m.relocation m.successors m.row m.below
    m.ends
