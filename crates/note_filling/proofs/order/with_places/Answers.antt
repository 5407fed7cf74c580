use Rattle.note_filling.proofs.Common.{arith, ap, ◌∙◌}
use Rattle.std.specs.Option.{unwrap_or}
use Rattle.std.proofs.lemmas.List.Elements.{All-push}
use Rattle.note_filling.specs.Views.{IsRanked}
use Rattle.note_filling.proofs.OrderLaws.{one_more}
use Rattle.note_filling.proofs.order.with_places.Goals as goal

pub loop-value-preserved : goal.loop-value-preserved
loop-value-preserved c =
    let more = one_more c.loop-value.yielded c.loop-value.all.items _ _ c.loop-value.invariant.values c.loop-value.invariant.stood
    (omega arith) c.in_ok-push.ensures.items in
    record {
      values = more.0;
      stood = more.1;
      ranked = rw (c.in_ok-push.ensures.items) (All-push IsRanked c.loop-value.all.items _ c.loop-value.invariant.ranked
          (c.unwrap_or-place.ensures ∙ ap (λ p. unwrap_or p 0xffffffffffffffff) c.place_of.ensures));
    }
