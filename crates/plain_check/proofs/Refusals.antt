-- Where the plain check refuses, and by which rule.
use Rattle.plain_check.proofs.Common.{◌≡◌, ◌≢◌, ◌↔◌, ℕ, ◌+◌, ◌<◌, ◌≤◌, zero, suc, Bool, true, false, not, ◌&&◌, nat_eq, nat_lt}
use Rattle.plain_check.proofs.Common.{if◌then◌else◌, List, [], ◌∷◌, length, drop, Option, Some, None, Ok, Err, refl, sym, ap, ◌∙◌, subst}
use Rattle.plain_check.proofs.Common.{arith, inl, inr, cases_Bool, and_parts, nat_tests, Insn, DecodeFault, read, read_length, RuleName}
use Rattle.plain_check.proofs.Common.{Decode, Form, Target, End, Verdict, Neutral, Refused, is_plain, reached, starts, lands, falls_through}
use Rattle.plain_check.proofs.Common.{instruction_rule, first_refusal, judged, plain_verdict, place_of, IsReached, Decodes}
use Rattle.std.proofs.Common.{nat_le}
use Rattle.plain_check.specs.PlainRules.{NamesStart, FailsFirst, IsRefusedAt, IsRefused, MeetsPlainRules}
use Rattle.plain_check.proofs.{Places.along, Rules.one-further, Rules.onward, Rules.before, Rules.same-read, Rules.begins, Rules.names}
use Rattle.plain_check.proofs.Rules.{lands-named, meets, neutral-exactly}

-- ---- no place lies between two that follow one another

monotone : (code : List ℕ) (a b p q : ℕ) → a ≤ b → place_of code a ≡ Some p → place_of code b ≡ Some q → p ≤ q
unfolding place_of
monotone code zero zero p q h e f = let same : p ≡ q = cc in omega arith
monotone code (suc a) zero p q h e f = absurd (omega arith)
monotone code a (suc b) p q h e f = elim (cases_Bool (nat_eq a (suc b))) [
  | inl last ↦
      let same : a ≡ suc b = grind (arith, nat_tests) in
      let again : place_of code a ≡ Some q = ap (place_of code) same ∙ f in
      let ends : p ≡ q = let and_parts : Some p ≡ Some q = sym e ∙ again in cc in
      omega arith
  | inr more ↦
      let apart : a ≢ suc b = grind (arith, nat_tests) in
      let w = before code q (place_of code b) f in
      let below = monotone code a b p w.0 (omega arith) e w.1 in
      omega (arith, w.2.there)
]

-- a place that is reached, past another, lies no nearer than the next one
no-between : (code : List ℕ) (place q : ℕ) (i : Insn) (n : ℕ) → IsReached code place → read (drop place code) ≡ Ok (i, n) → IsReached code q
    → place < q → place + n ≤ q
no-between code place q i n led e other past =
    let next = one-further code led.0 place i n led.1 e in
    elim (cases_Bool (nat_le other.0 led.0)) [
      | inl low ↦
          let h : other.0 ≤ led.0 = grind (arith, nat_tests) in
          absurd (let back = monotone code other.0 led.0 q place h other.1 led.1 in omega arith)
      | inr high ↦
          let h : led.0 + 1 ≤ other.0 = let above : led.0 < other.0 = grind (arith, nat_tests) in omega arith in
          monotone code (suc led.0) other.0 (place + n) q (omega arith) next other.1
    ]

-- ---- the rule that fails

-- which tests say that a rule fails
Fails : Bool → Bool → Bool → RuleName → Type 0
Fails plain landed last Form = plain ≡ false
Fails plain landed last Target = (plain ≡ true) × (landed ≡ false)
Fails plain landed last End = (plain ≡ true) × (landed ≡ true) × (last ≡ true)
Fails plain landed last rule = ⊥

by-tests : (plain landed last : Bool) (rule : RuleName) → (if not plain then Some Form else if not landed then Some Target else if last then
    Some End else None) ≡ Some rule → Fails plain landed last rule
unfolding Fails
by-tests false landed last Form e = refl
by-tests false landed last rule e = cc
by-tests true false last Target e = (refl, refl)
by-tests true false last rule e = cc
by-tests true true true End e = (refl, refl, refl)
by-tests true true true rule e = cc
by-tests true true false rule e = cc

fails-so : (code : List ℕ) (place : ℕ) (i : Insn) (n : ℕ) (rule : RuleName) → read (drop place code) ≡ Ok (i, n)
    → Fails (is_plain i) (lands (starts code) (place + n) i) (nat_eq (place + n) (length code) && falls_through i) rule
    → FailsFirst code place rule
unfolding Fails
fails-so code place i n Form e f = record { decode = record { insn = i; size = n; reads = e }; form = f }
fails-so code place i n Target e f = record {
  decode = record { insn = i; size = n; reads = e };
  form = f.0;
  target = λ named. let landed : lands (starts code) (place + n) i ≡ true = lands-named code (place + n) i named in let other = f.1 in cc;
}
fails-so code place i n End e f =
    let ends = and_parts _ _ f.2 in
    record {
      decode = record { insn = i; size = n; reads = e };
      form = f.0;
      target = names code (place + n) i f.1;
      last = let test = ends.0 in grind (arith, nat_tests);
      passed = ends.1;
    }
fails-so code place i n rule e f = absurd f

fails-at : (code : List ℕ) (place : ℕ) (i : Insn) (n : ℕ) (rule : RuleName) → read (drop place code) ≡ Ok (i, n)
    → instruction_rule (starts code) (length code) (place + n) i ≡ Some rule → FailsFirst code place rule
fails-at code place i n rule e f = fails-so code place i n rule e (by-tests (is_plain i) (lands (starts code) (place + n) i) _ rule f)

undecoded : (code : List ℕ) (place : ℕ) (fault : DecodeFault) → read (drop place code) ≡ Err fault → ¬ Decodes code place
undecoded code place fault e d = let other = d.reads in cc

-- ---- from the verdict to the rules

-- every place before this one that lengths lead to meets the rules
MeetsBefore : List ℕ → ℕ → Type 0
MeetsBefore code place = (q : ℕ) → IsReached code q → q < place → MeetsPlainRules code q

-- the first of the places from one on that is refused
abbrev RefusedFrom : List ℕ → ℕ → RuleName → ℕ → Verdict → Type 0
RefusedFrom code p rule place verdict = IsReached code place → MeetsBefore code place → verdict ≡ Refused p rule → IsRefusedAt code p rule

refused-here : (code : List ℕ) (p place : ℕ) (rule named : RuleName) → place < length code → FailsFirst code place named
    → RefusedFrom code p rule place (Refused place named)
unfolding MeetsBefore
refused-here code p place rule named inside fails led met e =
    let there : place ≡ p = cc in
    let name : named ≡ rule = cc in
    let at : IsRefusedAt code place named = record { reached = led; inside = inside; before = met; fails = fails } in
    subst (λ r. IsRefusedAt code p r) name (subst (λ q. IsRefusedAt code q named) there at)

meets-more : (code : List ℕ) (place : ℕ) (i : Insn) (n : ℕ) → IsReached code place → read (drop place code) ≡ Ok (i, n)
    → MeetsPlainRules code place → MeetsBefore code place → MeetsBefore code (place + n)
unfolding MeetsBefore
meets-more code place i n led e here met q reached less = elim (cases_Bool (nat_lt q place)) [
  | inl low ↦ met q reached (grind (arith, nat_tests))
  | inr high ↦ elim (cases_Bool (nat_eq q place)) [
    | inl same ↦ let there : place ≡ q = grind (arith, nat_tests) in subst (MeetsPlainRules code) there here
    | inr other ↦
        let past : place < q = let one : place ≤ q = grind (arith, nat_tests) in let two : q ≢ place = grind (arith, nat_tests) in
        omega arith in
        absurd (let far = no-between code place q i n led e reached past in omega arith)
  ]
]

refused-insn : (code : List ℕ) (p place : ℕ) (rule : RuleName) (i : Insn) (n : ℕ) (others : Verdict) → read (drop place code) ≡ Ok (i, n)
    → place < length code → RefusedFrom code p rule (place + n) others
    → (found : Option RuleName) → instruction_rule (starts code) (length code) (place + n) i ≡ found
    → RefusedFrom code p rule place (judged place found others)
refused-insn code p place rule i n others e inside later None is led met refused =
    later (onward code place i n led e) (meets-more code place i n led e (meets code place i n e is) met) refused
refused-insn code p place rule i n others e inside later (Some named) is led met refused =
    refused-here code p place rule named inside (fails-at code place i n named e is) led met refused

refused-from : (code : List ℕ) (p : ℕ) (rule : RuleName) (place : ℕ)
    → RefusedFrom code p rule place (first_refusal (starts code) (length code) (reached place 0 (drop place code)))
unfolding first_refusal
refused-from code p rule = along code (λ place all. RefusedFrom code p rule place (first_refusal (starts code) (length code) all)) (record {
  at_end = λ place past led met e. cc;
  at_fault = λ place fault inside e. refused-here code p place rule Decode inside (undecoded code place fault e);
  at_insn = λ place i n e within later.
      let size = read_length (drop place code) i n e in
      refused-insn code p place rule i n _ e (omega (arith, size.0)) later _ refl;
})

none-before : (code : List ℕ) → MeetsBefore code 0
unfolding MeetsBefore
none-before code q reached less = absurd (omega arith)

verdict-refuses : (code : List ℕ) (place : ℕ) (rule : RuleName) → plain_verdict code ≡ Refused place rule → IsRefused code place rule
unfolding plain_verdict
verdict-refuses [] place rule e = let there : 0 ≡ place = cc in let name : End ≡ rule = cc in (sym there, sym name)
verdict-refuses (b ∷ bytes) place rule e = let code = b ∷ bytes in refused-from code place rule 0 (begins code) (none-before code) e

-- ---- from the rules to the verdict

-- an instruction of one place has one form, target and end
one-decoded : (code : List ℕ) (place : ℕ) (P : Insn → ℕ → Type 0) (d e : Decodes code place) → P d.insn d.size → P e.insn e.size
one-decoded code place P d e p = subst (λ (r : Insn × ℕ). P r.0 r.1) (same-read d.reads e.reads) p

opposite : {b : Bool} → b ≡ true → b ≡ false → ⊥
opposite p q = let e : true ≡ false = sym p ∙ q in cc

meets-none : (code : List ℕ) (place : ℕ) (rule : RuleName) → MeetsPlainRules code place → FailsFirst code place rule → ⊥
meets-none code place Decode m f = f m.decode
meets-none code place Form m f = opposite m.form (one-decoded code place (λ i n. is_plain i ≡ false) f.decode m.decode f.form)
meets-none code place Target m f = f.target (one-decoded code place (λ i n. NamesStart code (place + n) i) m.decode f.decode m.target)
meets-none code place End m f =
    opposite f.passed (one-decoded code place (λ i n. place + n ≡ length code → falls_through i ≡ false) m.decode f.decode m.ending f.last)
meets-none code place rule m f = absurd f

-- one rule alone is the first to fail
one-rule : (code : List ℕ) (place : ℕ) (a b : RuleName) → FailsFirst code place a → FailsFirst code place b → a ≡ b
one-rule code place Decode Decode f g = refl
one-rule code place Decode Form f g = absurd (f g.decode)
one-rule code place Decode Target f g = absurd (f g.decode)
one-rule code place Decode End f g = absurd (f g.decode)
one-rule code place Decode b f g = absurd g
one-rule code place Form Decode f g = absurd (g f.decode)
one-rule code place Form Form f g = refl
one-rule code place Form Target f g = absurd (opposite g.form (one-decoded code place (λ i n. is_plain i ≡ false) f.decode g.decode f.form))
one-rule code place Form End f g = absurd (opposite g.form (one-decoded code place (λ i n. is_plain i ≡ false) f.decode g.decode f.form))
one-rule code place Form b f g = absurd g
one-rule code place Target Decode f g = absurd (g f.decode)
one-rule code place Target Form f g = absurd (opposite f.form (one-decoded code place (λ i n. is_plain i ≡ false) g.decode f.decode g.form))
one-rule code place Target Target f g = refl
one-rule code place Target End f g = absurd (f.target (one-decoded code place
    (λ i n. NamesStart code (place + n) i) g.decode f.decode g.target))
one-rule code place Target b f g = absurd g
one-rule code place End Decode f g = absurd (g f.decode)
one-rule code place End Form f g = absurd (opposite f.form (one-decoded code place (λ i n. is_plain i ≡ false) g.decode f.decode g.form))
one-rule code place End Target f g = absurd (g.target (one-decoded code place
    (λ i n. NamesStart code (place + n) i) f.decode g.decode f.target))
one-rule code place End End f g = refl
one-rule code place End b f g = absurd g
one-rule code place a b f g = absurd f

-- the first place at which a rule fails is one
one-place : (code : List ℕ) (p q : ℕ) (a b : RuleName) → IsRefusedAt code p a → IsRefusedAt code q b → p < q → ⊥
one-place code p q a b f g less = meets-none code p a (g.before p f.reached less) f.fails

one-refusal : (code : List ℕ) (p q : ℕ) (a b : RuleName) → IsRefusedAt code p a → IsRefusedAt code q b → Refused q b ≡ Refused p a
one-refusal code p q a b f g =
    let up : ¬ (p < q) = one-place code p q a b f g in
    let down : ¬ (q < p) = one-place code q p b a g f in
    let there : q ≡ p = same p q up down in
    let name : b ≡ a = one-rule code p b a (subst (λ r. FailsFirst code r b) there g.fails) f.fails in
    rw (there, name) refl where
      same : (p q : ℕ) → ¬ (p < q) → ¬ (q < p) → q ≡ p
      same p q up down = elim (cases_Bool (nat_lt p q)) [
        | inl less ↦ absurd (up (grind (arith, nat_tests)))
        | inr high ↦ elim (cases_Bool (nat_lt q p)) [
          | inl more ↦ absurd (down (grind (arith, nat_tests)))
          | inr low ↦ let one : q ≤ p = grind (arith, nat_tests) in let two : p ≤ q = grind (arith, nat_tests) in omega arith
        ]
      ]

by-verdict : (b : ℕ) (bytes : List ℕ) (place : ℕ) (rule : RuleName) → IsRefusedAt (b ∷ bytes) place rule → (verdict : Verdict)
    → plain_verdict (b ∷ bytes) ≡ verdict → verdict ≡ Refused place rule
by-verdict b bytes place rule f Neutral e =
    let neutral = (neutral-exactly (b ∷ bytes)).0 e in
    absurd (meets-none (b ∷ bytes) place rule (neutral.each place f.reached f.inside) f.fails)
by-verdict b bytes place rule f (Refused q named) e = one-refusal (b ∷ bytes) place q rule named f (verdict-refuses (b ∷ bytes) q named e)

empty-refused : plain_verdict [] ≡ Refused 0 End
unfolding plain_verdict
empty-refused = refl

refuses-verdict : (code : List ℕ) (place : ℕ) (rule : RuleName) → IsRefused code place rule → plain_verdict code ≡ Refused place rule
refuses-verdict [] place rule f = rw (f.0, f.1) empty-refused
refuses-verdict (b ∷ bytes) place rule f = by-verdict b bytes place rule f _ refl

-- the verdict refuses exactly the first place at which a rule fails, by the first rule that fails there
pub refused-exactly : (code : List ℕ) (place : ℕ) (rule : RuleName) → plain_verdict code ≡ Refused place rule ↔ IsRefused code place rule
refused-exactly code place rule = (verdict-refuses code place rule, refuses-verdict code place rule)
