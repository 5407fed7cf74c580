-- What a frame of the host takes of the stack, with the functions that stand upon it.
use Rattle.step_sound.proofs.Common.{◌≡◌, ℕ, zero, suc, ◌+◌, ◌≤◌, List, [], ◌∷◌, Option, Some, sym, ap, ◌∙◌, arith, slice_get, same_Some}
use Rattle.step_sound.proofs.Common.{none-some, IsWidth, FnNote, FunctionFrame, Frame, Function, Host, HostFrame, Memory, World}
use Rattle.step_sound.proofs.Common.{live_memory, FramesKeep}
use Rattle.std.proofs.Common.{drop}
use Rattle.neutral_machine.specs.Layout.{height}
use Rattle.host_model.specs.Placements.{frame_bytes, pair_at, params_bytes, return_cell}
use Rattle.invariant_laws.specs.Sound.{FrameBelow}
use Rattle.typing_laws.proofs.Rooms.{params_height, within_at}
use Rattle.step_sound.specs.HostStack.{HostFramesFit, TopHostFits, top_bytes, top_host}

module _ (w : ℕ) (world : World) (h : IsWidth w) (m : Memory) (made : ℕ) where
  -- the host's frame on top, and what a function upon these frames may still use
  record TopFits (fs : List Frame) : Type 0 where
    all : TopHostFits w world.notes fs
    need : (f : FunctionFrame) (note : FnNote) → slice_get world.notes.function f.func ≡ Some note → FrameBelow world m f note fs
        → (t : HostFrame) (host : FnNote) → top_host fs ≡ Some t → slice_get world.notes.function t.func ≡ Some host
        → pair_at w note.need + (return_cell + top_bytes w fs) ≤ frame_bytes w host

  top_fits : (fs : List Frame) → FramesKeep world m made fs → TopFits fs
  top_fits [] k = record { all = λ t note e g. absurd (none-some t e); need = λ f note g b t host e q. absurd b }
  top_fits (Host t ∷ fs) k = record {
    all = λ u note e g.
        let same = here u note e g in
        let p = params_height w t.params k.0.note.params k.0.kinds in
        let q : params_bytes w k.0.note.params ≡ params_bytes w note.params = ap (λ (y : FnNote). params_bytes w y.params) (sym same) in
        omega (arith, p, q);
    need = λ f note g b u host e q.
        let same = here u host e q in
        let p = params_height w t.params k.0.note.params k.0.kinds in
        let own : note ≡ k.0.note = same_Some _ _ (sym g ∙ ap (slice_get world.notes.function) b.0 ∙ k.0.there) in
        let n : pair_at w note.need ≡ pair_at w host.need = ap (λ (y : FnNote). pair_at w y.need) (own ∙ sym same) in
        let s : params_bytes w k.0.note.params ≡ params_bytes w host.params = ap (λ (y : FnNote). params_bytes w y.params) (sym same) in
        omega (arith, p, n, s);
  }
    where
      here : (u : HostFrame) (note : FnNote) → ◌≡◌ {A = Option HostFrame} (Some t) (Some u)
          → slice_get world.notes.function u.func ≡ Some note → note ≡ k.0.note
      here u note e g = same_Some _ _ (sym g ∙ ap (λ (x : HostFrame). slice_get world.notes.function x.func) (sym (same_Some t u e))
          ∙ k.0.there)
  top_fits (Function g ∷ fs) k =
      let r = top_fits fs k.1 in
      let keeps = k.0.1 in
      record {
        all = λ t host e q.
            let n = r.need g k.0.0 keeps.there k.0.2 t host e q in
            let i = within_at w (λ v. height v g.items) k.0.0 h keeps.within in
            omega (arith, n, i);
        need = λ f note e b t host et q.
            let n = r.need g k.0.0 keeps.there k.0.2 t host et q in
            let c = b.0 in
            let same : c.0 ≡ k.0.0 = same_Some _ _ (sym c.1 ∙ keeps.there) in
            let j = within_at w (λ v. height v g.items + (return_cell + pair_at v note.need)) c.0 h c.2 in
            let l : pair_at w c.0.need ≡ pair_at w k.0.0.need = ap (λ (y : FnNote). pair_at w y.need) same in
            omega (arith, n, j, l);
      }

  each_fits : (n : ℕ) (fs : List Frame) → FramesKeep world m made fs → TopHostFits w world.notes (drop n fs)
  each_fits zero fs k = (top_fits fs k).all
  each_fits (suc n) [] k = λ t note e g. absurd (none-some t e)
  each_fits (suc n) (Host t ∷ fs) k = each_fits n fs k.1
  each_fits (suc n) (Function f ∷ fs) k = each_fits n fs k.1

pub host_frames_fit : HostFramesFit
host_frames_fit w world a h s n = each_fits w world h (live_memory world a) a.made n a.frames s.frames
