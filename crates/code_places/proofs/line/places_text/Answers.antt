use Rattle.std.proofs.Common.{◌≤◌, length, ap, ◌∙◌, string_bytes}
use Rattle.std.specs.List.{flat_map}
use Rattle.std.proofs.lemmas.List.{get_or_default, take_all}
use Rattle.code_places.specs.Places.{place_line, places_text}
use Rattle.code_places.proofs.ByteLines.{more_texts}
use Rattle.code_places.proofs.line.places_text.Goals as goal

pub loop-item-preserved : goal.loop-item-preserved
loop-item-preserved c = record {
  text = more_texts (place_line c.args.image.now) c.as_slice-item-items.result.now c.loop-item.item-index _
      (string_bytes c.loop-item.out) _ c.loop-item-test.true
      (get_or_default c.as_slice-item-items.result.now c.loop-item.item-index _ _ c.loop-item-test.true)
      c.loop-item.invariant.text c.in_ok-append_item.ensures;
}

pub returns : goal.returns
unfolding places_text
returns c =
    let past : length c.as_slice-item-items.result.now ≤ c.loop-item.item-index = c.loop-item-test.false in
    ap (λ bytes. bytes.items) c.into_bytes.ensures.value
    ∙ (c.loop-item.invariant.text
    ∙ (ap (flat_map (place_line c.args.image.now)) (take_all c.loop-item.item-index c.as_slice-item-items.result.now past)
    ∙ ap (flat_map (place_line c.args.image.now)) (c.as_slice-item-items.ensures.value ∙ c.in_ok-items.ensures.items)))
