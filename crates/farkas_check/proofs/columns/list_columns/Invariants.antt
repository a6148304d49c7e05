use Rattle.std.proofs.Common.{◌≡◌, drop}
use Rattle.farkas_check.specs.Relations.{source_columns}
use Rattle.farkas_check.specs.Walk.{columns_after}
use Rattle.farkas_check.proofs.Listing.{IsListedTo}
use Rattle.farkas_check.proofs.columns.list_columns.Given as goal

abbrev pub invariant-loop-place : goal.invariant-loop-place
invariant-loop-place l = IsListedTo l.place l.listed (source_columns l.source) × (columns_after l.last (source_columns l.source) ≡ drop l.place (source_columns l.source))
