use Rattle.std.proofs.Common.{◌≡◌, ◌+◌, ◌-◌, ◌≤◌, ◌++◌, string_bytes}
use Rattle.code_places.specs.Places.{bytes_text}
use Rattle.code_places.proofs.line.append_bytes.Given as goal

abbrev pub invariant-loop-k : goal.invariant-loop-k
invariant-loop-k l = record {
  within : l.k ≤ l.count;
  bytes : string_bytes l.out ++ bytes_text l.image (l.place + l.k) (l.count - l.k)
      ≡ string_bytes l.fn.out ++ bytes_text l.image l.place l.count;
}
