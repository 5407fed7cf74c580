use Rattle.run_trace.proofs.BeforeLaws.{hosts-none, machines-insn}
use Rattle.run_trace.proofs.before.next_insn.Goals as goal

pub returns-then-is_hosts_turn-clause-insn : goal.returns-then-is_hosts_turn-clause-insn
returns-then-is_hosts_turn-clause-insn g c = λ world r script is. hosts-none world r (c.if-is_hosts_turn.ensures world r script is)

pub returns-else-is_hosts_turn-clause-insn : goal.returns-else-is_hosts_turn-clause-insn
returns-else-is_hosts_turn-clause-insn g c = λ world r script is.
    machines-insn world r c.insn_at_ip.result (c.if-is_hosts_turn.ensures world r script is) (c.insn_at_ip.ensures.insn world r is)
