use Rattle.std.proofs.Common.{rules, ◌<◌, ◌^◌, ◌∙◌, refl, get_or}
use Rattle.std.specs.Prelude.{slice_index}
use Rattle.frame_stack.proofs.WordLaws.{words_none, same_none, written-next, same-next}
use Rattle.frame_stack.proofs.words.write_words.Goals as goal

pub loop-k-init : goal.loop-k-init
loop-k-init c = record {
  words = words_none (slice_index c.args.region.now) c.args.offset;
  apart = same_none (slice_index c.args.region.now) c.args.offset;
  len = refl;
}

pub loop-k-preserved : goal.loop-k-preserved
loop-k-preserved c =
    let k = c.loop-k.k in let b = slice_index c.loop-k.region in let after = slice_index c.store.new.self in
    let kept = c.loop-k.invariant in
    let small : get_or c.args.words.now k 0 < 2 ^ 64 = search rules in
    record {
      words = written-next b after c.args.offset k c.args.words.now c.loop-k-test.true small kept.words c.store.ensures.bytes;
      apart = same-next (slice_index c.args.region.now) b after c.args.offset k
          (get_or c.args.words.now k 0) kept.apart c.store.ensures.bytes;
      len = c.store.ensures.len ∙ kept.len;
    }
