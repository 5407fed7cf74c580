-- The host's step as a whole: a run that stands for a configuration stands for it after each step of the host.
use Rattle.host_laws.proofs.Common.{◌≡◌, ℕ, ◌≤◌, Some, sym, ap, ◌∙◌, subst, option_map_or, IsWidth, View, Plan, Finishes, Leaves, Accepts}
use Rattle.host_laws.proofs.Common.{Enters, Replies, Resumes, Notifies, Ends, host_plan, host_step, host_view, performed, Placement}
use Rattle.host_laws.proofs.Common.{stack_bytes, IsPlacement, ScriptPlace, RunState, Config, neutral_host_step, total, Stands, World}
use Rattle.host_laws.proofs.Common.{WorldFits, PlanFits, some_of_map}
use Rattle.neutral_machine.specs.NeutralHost.{performed as neutral_performed, host_view as neutral_view}
use Rattle.host_laws.proofs.Leaving.{end_stands, leave_stands, resume_stands, finish_stands}
use Rattle.host_laws.proofs.{Accepting.accept_stands, Entering.enter_stands, Entering.notify_stands, Replies.reply_stands}
use Rattle.host_laws.proofs.Views.{views_stand}

module _ (w : ℕ) (world : World) (P : Placement) (mapped : ℕ → ℕ) (h : IsWidth w) (ok : WorldFits world) (pl : IsPlacement w world P) where
  -- each plan keeps that the run stands for the configuration
  pub performed_stands : (a : Config) (r : RunState) (p : Plan) → total w a.frames ≤ stack_bytes w world.notes → Stands w world P mapped a r
      → PlanFits w world P a r p
      → Stands w world P mapped (neutral_performed world a p) (performed w world P r p)
  performed_stands a r (Finishes v) room st f = finish_stands w world P mapped h ok pl a r f.frame f.rest v f.is st
  performed_stands a r (Leaves e) room st f = leave_stands w world P mapped h ok pl a r f.frame f.rest e f.is st
  performed_stands a r (Accepts e entry objects stores) room st f =
      subst (λ n. Stands w world P mapped (neutral_performed world a (Accepts e n objects stores))
      (performed w world P r (Accepts e n objects stores))) f.entry_is
      (subst (λ os. Stands w world P mapped (neutral_performed world a (Accepts e a.script.entries os stores))
      (performed w world P r (Accepts e a.script.entries os stores))) f.objects_are
      (accept_stands w world P mapped h ok pl a r e f.call stores f.there room st f.names f.shown))
  performed_stands a r (Enters e entry f values) room st n = enter_stands w world P mapped h ok pl a r e entry f values n st
  performed_stands a r (Replies e stores kind v) room st f = reply_stands w world P mapped h ok pl a r e stores kind v room st f.0 f.1
  performed_stands a r (Resumes e) room st f = resume_stands w world P mapped h ok pl a r f.frame f.rest e f.is st
  performed_stands a r (Notifies e f values) room st n = notify_stands w world P mapped h ok pl a r e f values n st
  performed_stands a r (Ends es e) room st f = end_stands w world P mapped h ok pl a r es e st

  -- The host's step, whatever the configuration holds: where the neutral machine isn't stuck and its plan fits, the run stands for
  -- what it leaves. Types, states and rules don't come into it.
  pub host_step_stands : (a b : Config) (r : RunState) → total w a.frames ≤ stack_bytes w world.notes → Stands w world P mapped a r
      → ((v : View) → neutral_view world a a.spot ≡ Some v → PlanFits w world P a r (host_plan world a.script v))
      → neutral_host_step world a ≡ Some b → Stands w world P mapped b (host_step w world P r)
  unfolding neutral_host_step host_step
  host_step_stands a b r room st fits e =
      let q = some_of_map (λ v. neutral_performed world a (host_plan world a.script v)) (neutral_view world a a.spot) b e in
      let seen : host_view w world P r ≡ Some q.0 = views_stand w world P mapped a r h ok pl room st q.0 q.1 in
      let done = performed_stands a r (host_plan world a.script q.0) room st (fits q.0 q.1) in
      let step : performed w world P r (host_plan world a.script q.0) ≡ option_map_or
      (λ v. performed w world P r (host_plan world r.script v)) (host_view w world P r) r =
      ap (λ (p : ScriptPlace). performed w world P r (host_plan world p q.0)) (sym st.script)
      ∙ sym (ap (λ o. option_map_or (λ v. performed w world P r (host_plan world r.script v)) o r) seen) in
      subst (λ (c : Config). Stands w world P mapped c (option_map_or (λ v. performed w world P r (host_plan world r.script v))
      (host_view w world P r) r)) q.2
      (subst (λ (s : RunState). Stands w world P mapped (neutral_performed world a (host_plan world a.script q.0)) s) step done)
