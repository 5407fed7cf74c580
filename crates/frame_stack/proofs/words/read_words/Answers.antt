use Rattle.std.proofs.Common.{rules, ◌≡◌, ◌∙◌, sym, ap, arith, length-set}
use Rattle.std.specs.Prelude.{slice_index}
use Rattle.std.proofs.lemmas.List.{take_all, length-replicate}
use Rattle.frame_stack.specs.Words.{words_at}
use Rattle.frame_stack.proofs.WordLaws.{words_none, read-next}
use Rattle.frame_stack.proofs.words.read_words.Goals as goal

pub loop-k-init : goal.loop-k-init
loop-k-init g c = record {
  words = sym (words_none (slice_index c.args.region.now) c.args.offset);
  long = length-replicate g.row.N 0;
}

pub loop-k-preserved : goal.loop-k-preserved
loop-k-preserved g c =
    let k = c.loop-k.k in let kept = c.loop-k.invariant in
    record {
      words = read-next (slice_index c.args.region.now) c.args.offset k c.load.result c.loop-k.words (omega (
        arith,
        kept.long,
        c.loop-k-test.true,
      )) kept.words c.load.ensures.number;
      long = length-set c.loop-k.words k c.load.result ∙ kept.long;
    }

pub returns : goal.returns
returns g c =
    let k = c.loop-k.k in let kept = c.loop-k.invariant in
    let is : k ≡ g.row.N = search rules in
    sym (take_all k c.loop-k.words (omega (arith, kept.long, is))) ∙ kept.words ∙ ap
    (words_at (slice_index c.args.region.now) c.args.offset) is
