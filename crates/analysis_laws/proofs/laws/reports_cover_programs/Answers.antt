use Rattle.analysis_laws.proofs.AnalysisCover.{found-whole, reports-cover, summaries-hold}
use Rattle.analysis_laws.proofs.Points.{points-meet}
use Rattle.analysis_laws.proofs.laws.reports_cover_programs.Goals as goal

pub returns-clause-whole : goal.returns-clause-whole
returns-clause-whole c = found-whole

pub returns-clause-covers : goal.returns-clause-covers
returns-clause-covers c = reports-cover

pub returns-clause-summaries : goal.returns-clause-summaries
returns-clause-summaries c = summaries-hold

pub returns-clause-points : goal.returns-clause-points
returns-clause-points c = points-meet
