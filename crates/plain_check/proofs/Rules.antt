-- The verdict on plain code, by the rules at each place.
use Rattle.plain_check.proofs.Common.{◌≡◌, ◌↔◌, ℕ, ◌+◌, ◌%◌, ◌<◌, zero, suc, Bool, true, false, not, ◌&&◌, nat_eq, if◌then◌else◌, List, []}
use Rattle.plain_check.proofs.Common.{◌∷◌, length, drop, Option, Some, None, Result, Ok, Err, ℤ, pos, negsuc, refl, sym, ap, ◌∙◌, subst}
use Rattle.plain_check.proofs.Common.{arith, inl, inr, cases_Bool, or_right, nat_tests, Insn, Jump8, DecodeFault, read, read_length, Form}
use Rattle.plain_check.proofs.Common.{Target, End, Neutral, is_plain, reached, starts, is_start, passes, lands, falls_through}
use Rattle.plain_check.proofs.Common.{instruction_rule, first_refusal, jump_target, plain_verdict, place_of, IsReached, Decodes, IsStart}
use Rattle.std.specs.Option.{option_and_then}
use Rattle.plain_check.specs.PlainRules.{place_after, NamesStart, IsNeutral, MeetsPlainRules}
use Rattle.plain_check.proofs.Starts.{Good, GoodStarts, good-starts, head-started, first-started, or-cases, and-true, fault-unstarted}
use Rattle.plain_check.proofs.{Places.along, Readings.read-even, Starts.no-rule}

-- ---- the places that are reached

-- an instruction at one place leads to another
pub record Leads (code : List ℕ) (from to : ℕ) : Type 0 where
  pub insn : Insn
  pub size : ℕ
  pub reads : read (drop from code) ≡ Ok (insn, size)
  pub there : to ≡ from + size

pub one-further : (code : List ℕ) (count place : ℕ) (i : Insn) (n : ℕ) → place_of code count ≡ Some place
    → read (drop place code) ≡ Ok (i, n) → place_of code (suc count) ≡ Some (place + n)
unfolding place_of
one-further code count place i n there e = rw (there, e) refl

pub onward : (code : List ℕ) (place : ℕ) (i : Insn) (n : ℕ) → IsReached code place → read (drop place code) ≡ Ok (i, n)
    → IsReached code (place + n)
onward code place i n reached e = (suc reached.0, one-further code reached.0 place i n reached.1 e)

after-leads : (code : List ℕ) (place to : ℕ) (found : Result (Insn × ℕ) DecodeFault) → read (drop place code) ≡ found
    → place_after place found ≡ Some to → Leads code place to
after-leads code place to (Ok (i, n)) e same = record { insn = i; size = n; reads = e; there = cc }
after-leads code place to (Err fault) e same = cc

pub before : (code : List ℕ) (to : ℕ) (o : Option ℕ) → option_and_then (λ place. place_after place (read (drop place code))) o ≡ Some to
    → (from : ℕ) × (o ≡ Some from) × Leads code from to
before code to None e = cc
before code to (Some from) e = (from, refl, after-leads code from to _ refl e)

pub same-read : {r s : Insn × ℕ} {found : Result (Insn × ℕ) DecodeFault} → found ≡ Ok r → found ≡ Ok s → r ≡ s
same-read p q = cc

pub same-size : {r s : Insn × ℕ} {found : Result (Insn × ℕ) DecodeFault} → found ≡ Ok r → found ≡ Ok s → r.1 ≡ s.1
same-size p q = ap (λ (r : Insn × ℕ). r.1) (same-read p q)

-- the place after a start is a start, where an instruction decodes there
next-started : (code : List ℕ) (place q : ℕ) (i : Insn) (n : ℕ) → is_start (reached place 0 (drop place code)) q ≡ true
    → read (drop q code) ≡ Ok (i, n) → Decodes code (q + n) → is_start (reached place 0 (drop place code)) (q + n) ≡ true
next-started code = along code (λ place all. (q : ℕ) (i : Insn) (n : ℕ) → is_start all q ≡ true → read (drop q code) ≡ Ok (i, n)
    → Decodes code (q + n) → is_start all (q + n) ≡ true) (record {
      at_end = λ place past q i n started e d. absurd (let h : false ≡ true = started in cc);
      at_fault = λ place fault inside h q i n started e d. absurd (fault-unstarted place q fault started);
      at_insn = λ place j m h within later q i n started e d. or_right (nat_eq place (q + n) && true) _
          (elim (or-cases (nat_eq place q && true) (is_start (reached (place + m) 0 (drop (place + m) code)) q) started) [
            | inl here ↦
                let same : place ≡ q = let t : nat_eq place q ≡ true = sym (and-true (nat_eq place q)) ∙ here in grind (arith, nat_tests) in
                let size : m ≡ n = same-size h (ap (λ p. read (drop p code)) same ∙ e) in
                let there : place + m ≡ q + n = omega arith in
                subst (λ p. is_start (reached (place + m) 0 (drop (place + m) code)) p ≡ true) there
                (first-started code (place + m) d.insn d.size (ap (λ p. read (drop p code)) there ∙ d.reads))
            | inr more ↦ later q i n more.1 e d
          ]);
    })

pub reached-started : (code : List ℕ) (count p : ℕ) → place_of code count ≡ Some p → Decodes code p → starts code p ≡ true
unfolding place_of
reached-started code zero p e d = let first : 0 ≡ p = cc in subst (λ q. starts code q ≡ true) first
    (first-started code 0 d.insn d.size (ap (λ q. read (drop q code)) first ∙ d.reads))
reached-started code (suc count) p e d =
    let b = before code p (place_of code count) e in
    let step = b.2 in
    let here = reached-started code count b.0 b.1 (record { insn = step.insn; size = step.size; reads = step.reads }) in
    subst (λ q. starts code q ≡ true) (sym step.there) (next-started code 0 b.0 step.insn step.size here step.reads
    (subst (Decodes code) step.there d))

started-reached : (code : List ℕ) (place : ℕ) → IsReached code place → (p : ℕ) → is_start (reached place 0 (drop place code)) p ≡ true
    → IsStart code p
started-reached code = along code (λ place all. IsReached code place → (p : ℕ) → is_start all p ≡ true → IsStart code p) (record {
  at_end = λ place past led p started. absurd (let h : false ≡ true = started in cc);
  at_fault = λ place fault inside e led p started. absurd (fault-unstarted place p fault started);
  at_insn = λ place i n e within later led p started. elim (or-cases (nat_eq place p && true)
      (is_start (reached (place + n) 0 (drop (place + n) code)) p) started) [
        | inl here ↦
            let same : place ≡ p = let t : nat_eq place p ≡ true = sym (and-true (nat_eq place p)) ∙ here in grind (arith, nat_tests) in
            subst (IsStart code) same (record { reached = led; decodes = record { insn = i; size = n; reads = e } })
        | inr more ↦ later (onward code place i n led e) p more.1
      ];
})

pub begins : (code : List ℕ) → IsReached code 0
unfolding place_of
begins code = (0, refl)

pub start-is : (code : List ℕ) (p : ℕ) → starts code p ≡ true → IsStart code p
start-is code p started = started-reached code 0 (begins code) p started

-- lengths lead to even places alone
pub reached-even : (code : List ℕ) (count p : ℕ) → place_of code count ≡ Some p → p % 2 ≡ 0
unfolding place_of
reached-even code zero p e = let first : 0 ≡ p = cc in omega arith
reached-even code (suc count) p e =
    let b = before code p (place_of code count) e in
    let step = b.2 in
    let here = reached-even code count b.0 b.1 in
    let size = read-even (drop b.0 code) step.insn step.size step.reads in
    omega (arith, step.there)

-- ---- the rules

passes-pos : (st : ℕ → Bool) (address : ℤ) → passes st address ≡ true → (place : ℕ) × (address ≡ pos place) × (st place ≡ true)
passes-pos st (pos place) e = (place, refl, e)
passes-pos st (negsuc n) e = cc

pub names : (code : List ℕ) (next : ℕ) (i : Insn) → lands (starts code) next i ≡ true → NamesStart code next i
names code next (Jump8 cond words) e = let t = passes-pos (starts code) (jump_target next words) e in (t.0, t.1, start-is code t.0 t.2)
names code next i e = tt

pub lands-named : (code : List ℕ) (next : ℕ) (i : Insn) → NamesStart code next i → lands (starts code) next i ≡ true
lands-named code next (Jump8 cond words) n = rw n.1 (reached-started code n.2.reached.0 n.0 n.2.reached.1 n.2.decodes)
lands-named code next i n = refl

-- the code ends at an instruction that control may pass, or not
ending-false : (code : List ℕ) (next : ℕ) (i : Insn) → (nat_eq next (length code) && falls_through i) ≡ false → next ≡ length code
    → falls_through i ≡ false
ending-false code next i e last = let t : nat_eq next (length code) ≡ true = grind (arith, nat_tests) in (rw t at e)

ending-test : (code : List ℕ) (next : ℕ) (i : Insn) → (next ≡ length code → falls_through i ≡ false)
    → (nat_eq next (length code) && falls_through i) ≡ false
ending-test code next i e = elim (cases_Bool (nat_eq next (length code))) [
  | inl last ↦ let same : next ≡ length code = grind (arith, nat_tests) in rw (last, e same) refl
  | inr more ↦ rw more refl
]

rule-holds : (plain landed ends_code : Bool) → plain ≡ true → landed ≡ true → ends_code ≡ false
    → (if not plain then Some Form else if not landed then Some Target else if ends_code then Some End else None) ≡ None
rule-holds plain landed ends_code o p q = rw (o, p, q) refl

pub meets : (code : List ℕ) (place : ℕ) (i : Insn) (n : ℕ) → read (drop place code) ≡ Ok (i, n)
    → instruction_rule (starts code) (length code) (place + n) i ≡ None → MeetsPlainRules code place
meets code place i n reads rule =
    let facts = no-rule (is_plain i) (lands (starts code) (place + n) i) _ rule in
    record {
      decode = record { insn = i; size = n; reads = reads };
      form = facts.0;
      target = names code (place + n) i facts.1;
      ending = ending-false code (place + n) i facts.2;
    }

meets-good : (code : List ℕ) (place : ℕ) → Good code (starts code) (starts code) place → MeetsPlainRules code place
meets-good code place g = meets code place g.insn g.size g.reads g.rule

-- ---- the verdict

reached-inside : (code : List ℕ) → ((p : ℕ) → starts code p ≡ true → Good code (starts code) (starts code) p) → starts code 0 ≡ true
    → (count p : ℕ) → place_of code count ≡ Some p → p < length code → starts code p ≡ true
unfolding place_of
reached-inside code good begun zero p e inside = let first : 0 ≡ p = cc in subst (λ q. starts code q ≡ true) first begun
reached-inside code good begun (suc count) p e inside =
    let b = before code p (place_of code count) e in
    let step = b.2 in
    let sizes = read_length (drop b.0 code) step.insn step.size step.reads in
    let here = reached-inside code good begun count b.0 b.1 (omega (arith, step.there, sizes.0)) in
    let g = good b.0 here in
    let size : g.size ≡ step.size = same-size g.reads step.reads in
    let there : b.0 + g.size ≡ p = omega (arith, step.there) in
    subst (λ q. starts code q ≡ true) there (g.next (omega arith))

verdict-meets : (code : List ℕ) → plain_verdict code ≡ Neutral → IsNeutral code
unfolding plain_verdict GoodStarts
verdict-meets [] neutral = cc
verdict-meets (b ∷ bytes) neutral =
    let code = b ∷ bytes in
    let good = good-starts code (starts code) 0 neutral in
    let begun = head-started code (starts code) (length code) 0 neutral (omega arith) in
    record {
      some = omega arith;
      each = λ place led inside. meets-good code place
          (good place (reached-inside code good begun led.0 place led.1 inside));
    }

meets-neutral : (code : List ℕ) → IsNeutral code → (place : ℕ) → IsReached code place
    → first_refusal (starts code) (length code) (reached place 0 (drop place code)) ≡ Neutral
unfolding first_refusal
meets-neutral code neutral = along code (λ place all. IsReached code place → first_refusal (starts code) (length code) all ≡ Neutral)
    (record {
      at_end = λ place past led. refl;
      at_fault = λ place fault inside e led. let m = neutral.each place led inside in absurd (unread e m.decode.reads);
      at_insn = λ place i n e within later led.
          let sizes = read_length (drop place code) i n e in
          let m = neutral.each place led (omega (arith, sizes.0)) in
          rw (met code place i n e m) (later (onward code place i n led e));
    }) where
      unread : {r : Insn × ℕ} {fault : DecodeFault} {found : Result (Insn × ℕ) DecodeFault} → found ≡ Err fault → found ≡ Ok r → ⊥
      unread p q = cc

      met : (code : List ℕ) (place : ℕ) (i : Insn) (n : ℕ) → read (drop place code) ≡ Ok (i, n) → MeetsPlainRules code place
          → instruction_rule (starts code) (length code) (place + n) i ≡ None
      met code place i n e m =
          subst (λ (r : Insn × ℕ). instruction_rule (starts code) (length code) (place + r.1) r.0 ≡ None) (same-read m.decode.reads e)
          (rule-holds _ _ _ m.form (lands-named code (place + m.decode.size) m.decode.insn m.target)
          (ending-test code (place + m.decode.size) m.decode.insn m.ending))

meets-verdict : (code : List ℕ) → IsNeutral code → plain_verdict code ≡ Neutral
unfolding plain_verdict
meets-verdict [] neutral = absurd (omega (arith, neutral.some))
meets-verdict (b ∷ bytes) neutral = meets-neutral (b ∷ bytes) neutral 0 (begins (b ∷ bytes))

-- the verdict is neutral exactly where every instruction meets every rule
pub neutral-exactly : (code : List ℕ) → plain_verdict code ≡ Neutral ↔ IsNeutral code
neutral-exactly code = (verdict-meets code, meets-verdict code)
