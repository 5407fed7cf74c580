-- The tables of accesses of the typing rules and of the neutral machine agree.
use Rattle.typing_laws.proofs.Common.{arith, refl, N, Q}
use Rattle.rules_base.specs.declared.access.Access.TheVariants.{Byte, Word, Dword, Qword, Form64, Natural, Signed}
use Rattle.typing_laws.specs.AccessTables.{LoadsAgree, StoresAgree, ParametersAgree, FormsAgree}

pub loads_agree : LoadsAgree
loads_agree a c = grind arith

pub stores_agree : StoresAgree
stores_agree a c = grind arith

pub parameters_agree : ParametersAgree
parameters_agree Natural N t x e = refl
parameters_agree Qword Q t x e = refl
parameters_agree Signed N t x e = refl
parameters_agree Signed Q t x e = refl
parameters_agree Byte N t x e = absurd (cc)
parameters_agree Word N t x e = absurd (cc)
parameters_agree Dword N t x e = absurd (cc)
parameters_agree Form64 N t x e = absurd (cc)
parameters_agree c k t x e = absurd (cc)

pub forms_agree : FormsAgree
forms_agree c = (grind arith, grind arith)
