use Rattle.std.proofs.Common.{◌≡◌, length, string_bytes, arith}
use Rattle.std.proofs.lemmas.Iterator.{YieldsList-from_chars}
use Rattle.std.proofs.lemmas.Iterator.Consumers.{YieldsList-turn, YieldsList-end}
use Rattle.std.proofs.lemmas.List.{length_push}
use Rattle.std.specs.Str.{chars}
use Rattle.explain.proofs.ShownLaws.{char-shown, joined-shown, shown-done, shown-more}
use Rattle.explain.proofs.told.shown_chars.Goals as goal

pub loop-c-preserved : goal.loop-c-preserved
loop-c-preserved c =
    let t = YieldsList-turn
    (YieldsList-from_chars c.args.text.now c.utf8.text cc) c.loop-c.yielded _ c.loop-c.yielded_by _ _ c.in-Some.c c.in-Some.is
    c.next.ensures.steps in
    record {
      text =
          rw (c.in_ok-push_shown.ensures, length_push c.loop-c.yielded c.in-Some.c)
          (shown-more (chars c.args.text.now) (string_bytes c.loop-c.out) _ (length c.loop-c.yielded) c.in-Some.c t
          c.loop-c.invariant.text);
      shown = rw c.in_ok-push_shown.ensures (joined-shown _ _ c.loop-c.invariant.shown (char-shown c.in-Some.c));
    }

pub returns-clause-text : goal.returns-clause-text
returns-clause-text c =
    let t = YieldsList-end
    (YieldsList-from_chars c.args.text.now c.utf8.text cc) c.loop-c.yielded _ c.loop-c.yielded_by _ _ c.in-None.is c.next.ensures.steps in
    shown-done (chars c.args.text.now) (string_bytes c.loop-c.out) _ (length c.loop-c.yielded) (omega (arith, t.1)) c.loop-c.invariant.text
