use Rattle.std.proofs.Common.{◌≡◌, ℕ, List, ◌+◌, ◌-◌, ◌≤◌, length, take, drop, length-drop, arith, ap, sym, ◌∙◌}
use Rattle.std.proofs.lemmas.List.{take_all}
use Rattle.std.proofs.lemmas.List.Elements.{All-push}
use Rattle.asm_text.specs.declared.listing.Listed.{Listed}
use Rattle.ebc_disasm.specs.declared.code.Item.{Item}
use Rattle.ebc_disasm.specs.CodeItems.{IsItem, item_of}
use Rattle.ebc_disasm.proofs.CodeWalk.{first_items, last_items, more_items, uncoded}
use Rattle.ebc_disasm.proofs.Coming.{later}
use Rattle.ebc_disasm.proofs.code.append_items.Goals as goal

pub returns-then-not-has_code-clause-items : goal.returns-then-not-has_code-clause-items
returns-then-not-has_code-clause-items c =
    uncoded c.args.image.now c.args.section.now c.args.items.now.items (sym c.if-not-has_code.ensures)

pub loop-at-init : goal.loop-at-init
loop-at-init c = record {
  short = omega arith;
  coming = later c.args.image.now c.args.section.now.place
      (c.args.section.now.place + 0) c.args.coming.relocs.now c.args.coming.labels.now c.requires.coming (omega arith);
  items = first_items c.args.image.now c.args.section.now c.in_ok-bytes.bytes.items c.args.items.now.items
      (sym c.if-not-has_code.ensures) c.in_ok-bytes.ensures.bytes;
  fit = c.requires.fit;
}

pub loop-at-preserved : goal.loop-at-preserved
loop-at-preserved c =
    let all : List ℕ = c.deref.result.now in
    let rest : List ℕ = take (length all - c.loop-at.at) (drop c.loop-at.at all) in
    let left : length (drop c.loop-at.at all) ≡ length all - c.loop-at.at = length-drop c.loop-at.at all in
    let is : rest ≡ drop c.loop-at.at c.in_ok-bytes.bytes.items =
    take_all (length all - c.loop-at.at) (drop c.loop-at.at all) (omega arith) ∙ ap (λ t. drop c.loop-at.at t) c.deref.ensures.value
    in
    let some : 1 ≤ c.next_at-next.result.count = c.next_at-next.ensures.fits.1 in
    let most : c.next_at-next.result.count ≤ length rest = c.next_at-next.ensures.fits.2 in
    let long : length rest ≡ length c.in_ok-bytes.bytes.items - c.loop-at.at = ap length is
    ∙ length-drop c.loop-at.at c.in_ok-bytes.bytes.items in
    let inside : c.loop-at.at ≤ length c.in_ok-bytes.bytes.items = c.loop-at.invariant.short in
    let item : Item = record {
      place = c.args.section.now.place + c.loop-at.at;
      count = c.next_at-next.result.count;
      line = c.next_at-next.result.line;
    } in
    let size : c.in_ok-bytes.bytes.len ≡ c.args.section.now.size = c.in_ok-bytes.ensures.len in
    let okay : c.in_ok-bytes.bytes.len ≡ length c.in_ok-bytes.bytes.items = c.in_ok-bytes.bytes.ok.0 in
    let fits : IsItem item = record {
      line = c.next_at-next.ensures.fits.0;
      end = omega (arith, most, long, inside, size, okay, c.requires.image.size, c.requires.section.within);
    } in
    record {
      short = omega (arith, some, most, long, inside);
      coming = later c.args.image.now (c.args.section.now.place + c.loop-at.at + 1)
          (c.args.section.now.place + (c.loop-at.at + c.next_at-next.result.count)) c.next_at-next.result.coming.relocs.now
          c.next_at-next.result.coming.labels.now
          c.next_at-next.ensures.coming (omega (arith, some));
      items = more_items c.args.image.now (c.args.section.now.place + c.loop-at.at)
          (c.args.section.now.place + (c.loop-at.at + c.next_at-next.result.count)) c.next_at-next.result.count c.loop-at.at
          c.in_ok-bytes.bytes.items rest item c.loop-at.items.items c.push.new.self.items _
          is (ap (λ (p : Listed × ℕ). item_of (c.args.section.now.place + c.loop-at.at) p) c.next_at-next.ensures.item)
          (ap (λ (p : Listed × ℕ). p.1) c.next_at-next.ensures.item) some most (omega arith) c.in_ok-push.ensures.items
          c.loop-at.invariant.items;
      fit = rw c.in_ok-push.ensures.items (All-push IsItem c.loop-at.items.items item c.loop-at.invariant.fit fits);
    }

pub returns-clause-items : goal.returns-clause-items
returns-clause-items c =
    let past : length c.in_ok-bytes.bytes.items ≤ c.loop-at.at = omega arith in
    last_items c.args.image.now (c.args.section.now.place + c.loop-at.at) c.loop-at.at c.in_ok-bytes.bytes.items c.loop-at.items.items
    _ past c.loop-at.invariant.items
