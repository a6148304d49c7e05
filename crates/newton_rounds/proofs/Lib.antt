-- marks that spread along links
pub mod Marks
-- a group without a call that follows another
pub mod LinearGroups
-- what is proved in the crates below
pub mod CratesBelow
-- ---- which columns formulas of pairs have, and how many auxiliaries
pub mod ExitColumns
pub mod PostFormulas
pub mod PairNumbers
pub mod Opposite
pub mod PairStates
pub mod CallStations
-- ---- two lists whose elements belong together
pub mod PairLists
-- ---- the ends of procedures, and known formulas
pub mod Widths
pub mod KnownTables
pub mod ProcedureLoops
-- ---- chains of calls
pub mod MatchLoops
pub mod ChainFormulas
pub mod PairFormulas
pub mod GroupGraphs
pub mod PairCells
pub mod ClosureSummaries
-- ---- candidates
pub mod CandidateSummaries
pub mod RoundRows
pub mod MemberLoops
-- ---- numbers of few procedures
pub mod NumberCounts
-- ---- the calls of a group, and both sides of them
pub mod GroupCalls
pub mod BothSides
pub mod GroupMembers
-- a group that stands in its program
pub mod ReadyGroups
-- ---- one more unfolding
pub mod LeafFits
pub mod Unfoldings
pub mod ToldCalls
-- ---- candidates, and what rounds leave of them
pub mod MemberTables
pub mod CandidateRows
pub mod CandidateFormulas
pub mod TrueRows
pub mod JudgedRows
pub mod RoundFormulas
pub mod RoundsMet
-- ---- what formulas of pairs hold of
pub mod PairMeanings
pub mod PairCalls
-- ---- bases, sides and closures hold
pub mod BasesMet
pub mod SidesMet
pub mod ClosedMet
-- ---- linear groups
pub mod ApartWalks
pub mod CallPlaces
pub mod LinearMet
-- ---- the summaries are met
pub mod SummariesMet
-- ---- what refutes a row
pub mod RowRefutations
-- ---- bases
pub mod BaseFormulas
-- ---- what begins with what holds at an exit
pub mod ExitFormulas
-- ---- groups that nothing tells apart
pub mod AlikeMembers
pub mod Alike
