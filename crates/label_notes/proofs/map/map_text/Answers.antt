use Rattle.label_notes.proofs.map.map_text.Goals as goal

pub returns : goal.returns
returns c = record {
  shared = c.in_ok-shared.shared;
  are_shared = c.in_ok-shared.ensures;
  order = c.in_ok-order.order.items;
  in_order = c.in_ok-order.ensures;
  lines = rw (c.new-text.ensures.items, c.as_slice.ensures.value) at c.in_ok-append_lines.ensures;
}
