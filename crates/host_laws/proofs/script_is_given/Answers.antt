use Rattle.host_laws.proofs.ScriptGives.{calls_are_given, objects_are_given, start_is_given}
use Rattle.host_laws.proofs.script_is_given.Goals as goal

pub returns-clause-calls : goal.returns-clause-calls
returns-clause-calls c = calls_are_given

pub returns-clause-start : goal.returns-clause-start
returns-clause-start c = start_is_given

pub returns-clause-objects : goal.returns-clause-objects
returns-clause-objects c = objects_are_given
