use Rattle.point_laws.proofs.{PointsRead.printed_points, PointsRead.printed_tables, PointsStand.printed_accepted, PointsStand.printed_stand}
use Rattle.point_laws.proofs.printed_points_are_read.Goals as goal

pub returns-clause-tables : goal.returns-clause-tables
returns-clause-tables c = printed_tables

pub returns-clause-points : goal.returns-clause-points
returns-clause-points c = printed_points

pub returns-clause-accepted : goal.returns-clause-accepted
returns-clause-accepted c = printed_accepted

pub returns-clause-stand : goal.returns-clause-stand
returns-clause-stand c = printed_stand
