use Rattle.std.proofs.Common.{◌≡◌, ◌++◌, ◌∷◌, [], length, string_bytes, ap, ◌∙◌, arith}
use Rattle.std.proofs.lemmas.Iterator.{YieldsList-from_chars}
use Rattle.std.proofs.lemmas.Iterator.Consumers.{YieldsList-turn, YieldsList-end}
use Rattle.std.proofs.lemmas.List.{length_push}
use Rattle.std.specs.Str.{chars}
use Rattle.note_texts.proofs.QuotedLaws.{quoted-more, quoted-done}
use Rattle.note_texts.proofs.key_text.quoted.Goals as goal

pub loop-c-preserved : goal.loop-c-preserved
loop-c-preserved c =
    let t = YieldsList-turn
    (YieldsList-from_chars c.args.key.now c.utf8.key cc) c.loop-c.yielded _ c.loop-c.yielded_by _ _ c.in-Some.c c.in-Some.is
    c.next.ensures.steps in
    rw (c.in_ok-push_quoted.ensures, length_push c.loop-c.yielded c.in-Some.c)
    (quoted-more (chars c.args.key.now) (string_bytes c.loop-c.text) _ (length c.loop-c.yielded) c.in-Some.c t c.loop-c.invariant)

pub returns : goal.returns
returns c =
    let t = YieldsList-end
    (YieldsList-from_chars c.args.key.now c.utf8.key cc) c.loop-c.yielded _ c.loop-c.yielded_by _ _ c.in-None.is c.next.ensures.steps in
    let last = c.in_ok-push.ensures.ascii (omega arith) in
    rw (c.in_ok-push.ensures.bytes, last)
    (ap (λ text. text ++ 34 ∷ []) (quoted-done (chars c.args.key.now) (string_bytes c.loop-c.text) _ (length c.loop-c.yielded)
    (omega (arith, t.1)) c.loop-c.invariant))
