use Rattle.ebc_link.proofs.Common.{◌≡◌, ℕ, List, [], drop, length, All, ◌≢◌, codes, some_text}
use Rattle.toml.specs.View.{items_view}
use Rattle.note_texts.specs.{Keys.text_of, Lists.each, Lists.texts_of}
use Rattle.note_texts.proofs.Loop.{with_front}
use Rattle.ebc_link.proofs.plan_text.object_names.Given as goal

abbrev pub invariant-loop-i : goal.invariant-loop-i
invariant-loop-i l = record {
  so_far : with_front l.names.items (each (λ i d. text_of some_text (codes "objects") d) l.i (items_view (drop l.i l.values)))
      ≡ texts_of some_text (codes "objects") (items_view l.values);
  counted : length l.names.items ≡ l.i;
  some : All (λ (name : List ℕ). name ≢ []) l.names.items;
}
