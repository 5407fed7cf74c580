-- The plan of every sample is one.
use Rattle.std.proofs.Common.{arith, refl, lit<, lit≤, ◌≡◌}
use Rattle.ebc_base.specs.Names.{is_name}
use Rattle.ebc_link.specs.Plans.{IsPlan}
use Rattle.printed_texts.specs.Samples.{sample_plan}

pub is_plan : IsPlan sample_plan
unfolding is_name
is_plan = record {
  some = lit≤ tt;
  few = lit≤ tt;
  names = λ k d short. let first : k ≡ 0 = omega (arith, short) in rw first (λ e. cc e);
  apart = λ i j d before short. absurd (omega (arith, before, short));
  entry = refl;
  subsystem = (lit≤ tt, lit≤ tt);
  base = refl;
  small = lit< tt;
}
