pub mod Laws
pub mod PlanFits
pub mod ScriptGiven
pub mod ScriptLaw
pub mod StartGiven
pub mod ThunkLoaded
