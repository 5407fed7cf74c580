use Rattle.std.proofs.Common.{◌+◌, ◌-◌, ◌<◌, ◌≤◌, ap, arith, ◌∙◌, string_bytes}
use Rattle.pe_image.specs.Mapped.{image_byte}
use Rattle.code_places.proofs.ByteLines.{more_bytes, no_bytes}
use Rattle.code_places.proofs.line.append_bytes.Goals as goal

pub loop-k-preserved : goal.loop-k-preserved
loop-k-preserved c =
    let test : c.loop-k.k < c.args.count = c.loop-k-test.true in
    record {
      within = omega arith;
      bytes = more_bytes c.args.image.now (c.args.place + c.loop-k.k) (c.args.place + (c.loop-k.k + 1)) (c.args.count - c.loop-k.k)
          (c.args.count - (c.loop-k.k + 1)) c.byte_at.result
          (string_bytes c.loop-k.out) (string_bytes c.append_byte.new.out)
          _ (omega arith) (omega arith) (omega arith)
          (c.byte_at.ensures ∙ ap (λ x. image_byte c.args.image.now (x + c.loop-k.k)) c.from.ensures)
          c.in_ok-append_byte.ensures c.loop-k.invariant.bytes;
    }

pub returns : goal.returns
returns c =
    let past : c.args.count ≤ c.loop-k.k = c.loop-k-test.false in
    no_bytes c.args.image.now (c.args.place + c.loop-k.k) (c.args.count - c.loop-k.k) (string_bytes c.loop-k.out) _ (omega arith)
    c.loop-k.invariant.bytes
