use Rattle.std.proofs.Common.{◌≡◌, map}
use Rattle.toml.specs.View.{members_view}
use Rattle.note_texts.specs.Keys.{only_keys}
use Rattle.note_texts.proofs.row.Row.only_keys.Given as goal

abbrev pub invariant-loop-key : goal.invariant-loop-key
invariant-loop-key l = only_keys l.self.prefix.now (map (λ k. k.now) l.known) (members_view l.key-iterator) ≡ only_keys l.self.prefix.now
    (map (λ k. k.now) l.known) (members_view l.self.table.now.entries)
