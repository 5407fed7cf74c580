-- What is printed of a value that scripts can write is read as that value.
use Rattle.protocol_script.proofs.Common.{◌≡◌, ℕ, zero, suc, ◌+◌, ◌^◌, ◌<◌, Bool, true, false, List, [], ◌∷◌, ◌++◌, length, Option, Some}
use Rattle.protocol_script.proofs.Common.{refl, sym, ap, subst, ◌∙◌, arith, slice_get, ⊎_elim, cases_Bool, same_Some, bytes_eq-Decides}
use Rattle.protocol_script.proofs.Common.{position, position_or_len, option_map_or, bytes_eq, codes, nat_lt, option_and_then, option_map}
use Rattle.protocol_script.proofs.Common.{IsNotes, FnNote, Notes, Seen, Value, given, IsWritten, within_some, ValueText, function_number}
use Rattle.protocol_script.proofs.Common.{method_number, narrow, HasNames, resolved_argument, resolved_value}
use Rattle.std.proofs.lemmas.{Bool.lt-ltb, Option.none-some, Option.slice_get_within}
use Rattle.script_draft.specs.{Printed.named_value, Printed.seen_text, Printed.value_text, ValueTexts.argument_of, ValueTexts.value_of}
use Rattle.script_draft.proofs.ValueLaws.{argument_complete, value_complete}
use Rattle.protocol_script.specs.PrintedLaw.{PrintedArgumentsAreRead, PrintedValuesAreRead}
use Rattle.ebc_base.proofs.TableLaws.{same_name}
use Rattle.note_types.specs.declared.value.Value.TheVariants as value
use Rattle.script_draft.specs.Grammar as grammar
use Rattle.script_draft.specs.declared.value.ArgumentText.TheVariants as argument
use Rattle.script_draft.specs.declared.value.ValueText.TheVariants as text

-- ---- numbers of names

-- where one item alone passes, a search finds its number
found_first : {A : Type 0} (p : A → Bool) (xs : List A) (k : ℕ) (x : A) → slice_get xs k ≡ Some x → p x ≡ true
    → ((j : ℕ) (y : A) → slice_get xs j ≡ Some y → p y ≡ true → j ≡ k) → position_or_len p xs ≡ k
found_first p [] k x at h once = absurd (none-some x at)
found_first p (y ∷ ys) zero x at h once =
    let here : p y ≡ true = ap p (same_Some y x at) ∙ h in
    rw here refl
found_first p (y ∷ ys) (suc k) x at h once = ⊎_elim
    (λ here. let e : 0 ≡ suc k = once 0 y refl here in absurd (omega (arith, e)))
    (λ gone.
    let rest : position_or_len p ys ≡ k = found_first p ys k x at h
    (λ j z e g. let n : suc j ≡ suc k = once (suc j) z e g in omega (arith, n)) in
    rw gone (omega (arith, rest)))
    (cases_Bool (p y))

number_found : {A : Type 0} (p : A → Bool) (xs : List A) (k : ℕ) (x : A) → slice_get xs k ≡ Some x → p x ≡ true
    → ((j : ℕ) (y : A) → slice_get xs j ≡ Some y → p y ≡ true → j ≡ k) → k < 2 ^ 32 → option_and_then narrow (position p xs) ≡ Some k
number_found p xs k x at h once small =
    let first : position_or_len p xs ≡ k = found_first p xs k x at h once in
    let within : nat_lt k (length xs) ≡ true = lt-ltb k (length xs) (slice_get_within xs k x at) in
    let few : nat_lt k (2 ^ 32) ≡ true = lt-ltb k (2 ^ 32) small in
    rw (first, within, few) refl

its_name : (a : List ℕ) → bytes_eq a a ≡ true
its_name a = (bytes_eq-Decides a a).1 refl

function_found : (notes : Notes) → IsNotes notes → HasNames notes → (f : ℕ) (g : FnNote) → slice_get notes.function f ≡ Some g
    → function_number notes g.name ≡ Some f
unfolding function_number
function_found notes ok names f g at =
    let within = slice_get_within notes.function f g at in
    let few = ok.few.functions in
    number_found (λ (h : FnNote). bytes_eq h.name g.name) notes.function f g at (its_name g.name)
    (λ j h e same. names.functions_once j f h g e at (same_name h.name g.name same)) (omega (arith, within, few))

method_found : (notes : Notes) → IsNotes notes → HasNames notes → (m : ℕ) (name : List ℕ) → slice_get notes.methods m ≡ Some name
    → method_number notes name ≡ Some m
unfolding method_number
method_found notes ok names m name at =
    let within = slice_get_within notes.methods m name at in
    let few = ok.few.methods in
    number_found (λ (n : List ℕ). bytes_eq n name) notes.methods m name at (its_name name)
    (λ j n e same. names.methods_once j m n name e at (same_name n name same)) (omega (arith, within, few))

-- ---- values

-- A value that scripts can write has a text of a script, which is what is printed of it, and stands for the value.
record IsNamed (notes : Notes) (v : Value) : Type 0 where
  named : ValueText
  writable : grammar.IsWritable named
  printed : value_text notes v ≡ grammar.value_text named
  stands : resolved_value notes named ≡ Some v

is_named : (notes : Notes) → IsNotes notes → HasNames notes → (v : Value) → IsWritten notes v → IsNamed notes v
unfolding value_text named_value resolved_value
is_named notes ok names (value.Int n) h = record { named = text.Int n; writable = h; printed = refl; stands = refl }
is_named notes ok names (value.Size n c) h = record { named = text.Size n c; writable = h; printed = refl; stands = refl }
is_named notes ok names (value.Ptr o i) h = record { named = text.Ptr o i; writable = h; printed = refl; stands = refl }
is_named notes ok names value.Null h = record { named = text.Null; writable = tt; printed = refl; stands = refl }
is_named notes ok names (value.StatusOk k) h = record { named = text.StatusOk k; writable = h; printed = refl; stands = refl }
is_named notes ok names (value.StatusError k) h = record { named = text.StatusError k; writable = h; printed = refl; stands = refl }
is_named notes ok names (value.Handle k) h = record { named = text.Handle k; writable = h; printed = refl; stands = refl }
is_named notes ok names (value.Entry f) h =
    let there = within_some notes.function f h in
    let g = there.0 in
    record {
      named = text.Entry g.name;
      writable = names.functions f g there.1;
      printed = ap (λ (o : Option FnNote). option_map_or grammar.value_text
          (option_map (λ name. text.Entry name) (option_map (λ (g : FnNote). g.name) o)) []) there.1;
      stands = ap (option_map (λ f. value.Entry f)) (function_found notes ok names f g there.1);
    }
is_named notes ok names (value.Method m) h =
    let there = within_some notes.methods m h in
    let name = there.0 in
    record {
      named = text.Method name;
      writable = names.methods m name there.1;
      printed = ap (λ (o : Option (List ℕ)). option_map_or grammar.value_text (option_map (λ name. text.Method name) o) []) there.1;
      stands = ap (option_map (λ m. value.Method m)) (method_found notes ok names m name there.1);
    }
is_named notes ok names value.Any h = record { named = text.Any; writable = tt; printed = refl; stands = refl }
is_named notes ok names value.Out h = absurd h
is_named notes ok names (value.Wild x) h = absurd h

pub printed_values : PrintedValuesAreRead
printed_values notes ok names v h =
    let n = is_named notes ok names v h in
    ap (λ t. option_and_then (resolved_value notes) (value_of t)) n.printed
    ∙ (ap (option_and_then (resolved_value notes)) (value_complete n.named n.writable) ∙ n.stands)

-- ---- arguments

out_printed : (notes : Notes) → option_and_then (resolved_argument notes) (argument_of (seen_text notes (given value.Out))) ≡ Some
    (given value.Out)
unfolding value_text resolved_argument
out_printed notes = ap (option_and_then (resolved_argument notes)) (argument_complete (codes "out") argument.Out refl)

value_printed : (notes : Notes) (lent : Bool) (v : Value) → IsNamed notes v
    → option_and_then (resolved_argument notes) (argument_of (seen_text notes (record { lent = lent; value = v }))) ≡ Some
    (record { lent = lent; value = v })
unfolding resolved_argument
value_printed notes true v n =
    ap (λ t. option_and_then (resolved_argument notes) (argument_of (codes "lent " ++ t))) n.printed
    ∙ (ap (option_and_then (resolved_argument notes)) (argument_complete (codes "lent " ++ grammar.value_text n.named)
    (argument.Lent n.named) (refl, n.writable))
    ∙ ap (option_map (λ v. record { lent = true; value = v })) n.stands)
value_printed notes false v n =
    ap (λ t. option_and_then (resolved_argument notes) (argument_of t)) n.printed
    ∙ (ap (option_and_then (resolved_argument notes)) (argument_complete (grammar.value_text n.named) (argument.Given n.named)
    (refl, n.writable))
    ∙ ap (option_map (λ v. record { lent = false; value = v })) n.stands)

pub printed_arguments : PrintedArgumentsAreRead
printed_arguments notes ok names s h = ⊎_elim
    (λ written. value_printed notes s.lent s.value (is_named notes ok names s.value written))
    (λ is. subst (λ (z : Seen). option_and_then (resolved_argument notes) (argument_of (seen_text notes z)) ≡ Some z) (sym is)
    (out_printed notes))
    h
