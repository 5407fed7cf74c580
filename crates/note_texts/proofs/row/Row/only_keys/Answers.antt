use Rattle.std.proofs.Common.{◌≡◌, map, true, false, string_bytes, ◌∙◌, sym, rules}
use Rattle.std.specs.Map.Iter.{deref_pair}
use Rattle.std.proofs.lemmas.Map.Iter.{rest_more, rest_all}
use Rattle.note_texts.proofs.OnlyKeys.{known-map, keys_go_on, keys_stop, keys_done}
use Rattle.ebc_base.specs.Tables.{is_named}
use Rattle.note_texts.proofs.row.Row.only_keys.Goals as goal

pub returns-then-not-is_known : goal.returns-then-not-is_known
returns-then-not-is_known c =
    let first = rest_more deref_pair c.loop-key.key-iterator c.next.new.self c.next.result
    (c.in-Some.key, c.in-Some.field-0-1) c.in-Some.is c.next.ensures.steps in
    let other : c.is_known.result ≡ false = search rules in
    let test : is_named (string_bytes c.in-Some.key.now) (map (λ k. k.now) c.args.known.now) ≡ false
    = sym (known-map (string_bytes c.in-Some.key.now) c.args.known.now) ∙ rw (← c.as_str.ensures.value) (sym c.is_known.ensures ∙ other) in
    rw (c.in_ok-told_path.ensures, c.as_str-then-not-is_known.ensures.value)
    (keys_stop c.args.self.prefix.now
    (map (λ k. k.now) c.args.known.now) c.in-Some.key.now c.in-Some.field-0-1.now c.loop-key.key-iterator c.next.new.self _ first test
    c.loop-key.invariant)

pub loop-key-preserved : goal.loop-key-preserved
loop-key-preserved c =
    let first = rest_more deref_pair c.loop-key.key-iterator c.next.new.self c.next.result
    (c.in-Some.key, c.in-Some.field-0-1) c.in-Some.is c.next.ensures.steps in
    let same : c.is_known.result ≡ true = search rules in
    let test : is_named (string_bytes c.in-Some.key.now) (map (λ k. k.now) c.args.known.now) ≡ true
    = sym (known-map (string_bytes c.in-Some.key.now) c.args.known.now) ∙ rw (← c.as_str.ensures.value) (sym c.is_known.ensures ∙ same) in
    keys_go_on c.args.self.prefix.now
    (map (λ k. k.now) c.args.known.now) c.in-Some.key.now c.in-Some.field-0-1.now c.loop-key.key-iterator c.next.new.self _ first test
    c.loop-key.invariant

pub returns : goal.returns
returns c = keys_done c.args.self.prefix.now (map (λ k. k.now) c.args.known.now) c.loop-key.key-iterator _
    (rest_all deref_pair c.loop-key.key-iterator c.next.new.self c.next.result c.in-None.is c.next.ensures.steps) c.loop-key.invariant
