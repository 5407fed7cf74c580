-- A walk through an instruction.
use Rattle.note_infer.proofs.Common.{◌≡◌, ℕ, ◌<◌, ◌≤◌, List, sym, ap, subst, ◌∙◌, arith, None, Option, Some, slice_get, Insn, IsNotes}
use Rattle.note_infer.proofs.Common.{FnNote, Notes, State, Image, Successors, OrRule, reloc_at, here_at, row_of, Clashes, States, all_in}
use Rattle.note_infer.proofs.Common.{given, marked, ClashesAt, Takes, IsSetting, Reached}
use Rattle.width_checker.proofs.Walking.{here_is}
use Rattle.note_infer.proofs.{PointNotes.marked_notes, Lone.come_one, Lone.points_before}

-- ---- the setting

module _ (image : Image) (notes other : Notes) (leaders : List ℕ) (g : IsSetting image notes other leaders) where
  -- the notes with the leaders as points meet their conditions
  pub marks_read : IsNotes (marked notes leaders)
  marks_read = marked_notes notes g.read image leaders g.all g.few

  pub other_read : IsNotes other
  other_read = subst IsNotes (sym g.marks) marks_read

  pub range_of : (k : ℕ) (f : FnNote) → slice_get notes.function k ≡ Some f → f.place < f.end
  range_of k f there = (g.functions k f there).range

-- the row of an instruction, under the leaders as points
pub row_here : (image : Image) (notes other : Notes) (leaders : List ℕ) (func at next : ℕ) (reloc : Option ℕ) (s : State) (i : Insn)
    (o : OrRule Successors) → other ≡ marked notes leaders → reloc ≡ reloc_at image next
    → o ≡ row_of other (record { place = at; next = next; func = func; reloc = reloc }) s i
    → row_of (marked notes leaders) (here_at image func at next) s i ≡ o
row_here image notes other leaders func at next reloc s i o marks e q =
    sym (q ∙ ap (λ m. row_of m (record { place = at; next = next; func = func; reloc = reloc }) s i) marks
    ∙ ap (λ h. row_of (marked notes leaders) h s i) (here_is image func at next reloc e))

-- what is joined in clashes with what has come, in the round's words
pub clash_in : (image : Image) (notes : Notes) (leaders : List ℕ) (states come : States) (k : ℕ) (f : FnNote) (place next : ℕ)
    (x : Successors) → slice_get notes.function k ≡ Some f → place ≤ f.end → Reached image notes leaders states come place
    → ClashesAt leaders f (λ (l : ℕ). given l next x) come → Clashes image notes leaders states k f place next x
clash_in image notes leaders states come k f place next x there short r h = record {
  leader = h.leader;
  there = h.there;
  within = h.within;
  had = come h.leader;
  come = r.comes k f there h.leader h.there h.within short;
  clash = h.clash;
}

clash_apart : (o : Option (Option State)) (s : Option State) → o ≡ Some s → o ≡ None → ⊥
clash_apart o s e g = cc

-- what is joined in doesn't
pub no_clash_in : (image : Image) (notes : Notes) (leaders : List ℕ) (states come after : States) (k : ℕ) (f : FnNote) (place next : ℕ)
    (x : Successors) (there : slice_get notes.function k ≡ Some f) (range : f.place < f.end) → place ≤ f.end
    → Reached image notes leaders states come place
    → Takes leaders f (λ (l : ℕ). given l next x) come after → Clashes image notes leaders states k f place next x → ⊥
no_clash_in image notes leaders states come after k f place next x there range short r takes h =
    let same : h.had ≡ come h.leader = come_one image notes leaders states k f range place
    (points_before image notes leaders states come place r k f there range) h.leader place h.had (come h.leader) (omega arith) h.come
    (r.comes k f there h.leader h.there h.within short) in
    clash_apart (all_in (come h.leader) (given h.leader next x)) (after h.leader) (takes.within h.leader h.there h.within)
    (subst (λ o. all_in o (given h.leader next x) ≡ None) same h.clash)
