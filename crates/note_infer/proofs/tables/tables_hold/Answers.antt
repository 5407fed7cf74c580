use Rattle.note_infer.proofs.tables.tables_hold.Goals as goal

pub returns-in_default-check_functions : goal.returns-in_default-check_functions
returns-in_default-check_functions c = (
  λ t. absurd cc,
  λ h. absurd (c.in_default-check_functions.ensures.fails.1.fails (h.functions c.in_default-check_functions.field-0)),
)

pub returns-in_default-check_statics : goal.returns-in_default-check_statics
returns-in_default-check_statics c = (
  λ t. absurd cc,
  λ h. absurd (c.in_default-check_statics.ensures.fails.1.fails (h.statics c.in_default-check_statics.field-0)),
)

pub returns : goal.returns
returns c = (λ t. absurd cc, λ h. absurd (c.in-Err.ensures.fails.1.fails (h.thunks c.in-Err.field-0)))
