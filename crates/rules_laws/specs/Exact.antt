-- For proofs: what the calls answer, by the rows read as relations. docs/RULES.md, "The first rule", has the words.
use Rattle.std.specs.Prelude.{◌≡◌, ◌↔◌, ℕ, Ok, Err}
use Rattle.ebc_insn.specs.declared.Insn.{Insn}
use Rattle.note_types.specs.declared.notes.Notes.{Notes}
use Rattle.note_types.specs.declared.rule.RuleName.{RuleName}
use Rattle.note_types.specs.declared.state.State.{State}
use Rattle.rules_base.specs.declared.here.Here.{Here}
use Rattle.rules_data.specs.Rule as data_rows
use Rattle.rules_flow.specs.declared.successors.Successors.{Successors}
use Rattle.rules_base.specs.Outcomes.{OrRule}
use Rattle.rules_flow.specs.Rule as flow_rows

-- ---- instructions on data

-- the state that is given is the one with which the instruction goes on, at the next one
abbrev pub DataRelated : Notes → Here → State → Insn → OrRule State → Type 0
DataRelated notes here s i result =
    (next : ℕ) (post : State) → data_rows.Rule notes here s i next post ↔ ((result ≡ Ok post) × (next ≡ here.next))

-- the error is the first of the rules by which its row fails
abbrev pub DataFirst : Notes → Here → State → Insn → OrRule State → Type 0
DataFirst notes here s i result = (r : RuleName) → (result ≡ Err r) ↔ data_rows.FirstRule notes here s i r

-- ---- instructions of control and of the stack

-- the successors that are given are the places and states with which the instruction goes on
abbrev pub FlowRelated : Notes → Here → State → Insn → OrRule Successors → Type 0
FlowRelated notes here s i result =
    (x : Successors) → result ≡ Ok x → (next : ℕ) (post : State) → flow_rows.Rule notes here s i next post
    ↔ flow_rows.IsSuccessor here x next post

-- what is given is exactly what the parts of the row give
abbrev pub FlowGiven : Notes → Here → State → Insn → OrRule Successors → Type 0
FlowGiven notes here s i result = (x : Successors) → (result ≡ Ok x) ↔ (flow_rows.successors_part notes here s i).gives x

-- the error is the first of the rules by which its row fails
abbrev pub FlowFirst : Notes → Here → State → Insn → OrRule Successors → Type 0
FlowFirst notes here s i result = (r : RuleName) → (result ≡ Err r) ↔ flow_rows.FirstRule notes here s i r
