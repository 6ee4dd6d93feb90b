-- Laws of the definitions: what is listed, weak duality, uniqueness, the empty near side.
pub mod Listed
pub mod Same
pub mod Uses
pub mod Bound
pub mod Unique
pub mod Empty
-- Lanes from left to right; the links around a place, clockwise.
pub mod LaneOrder
pub mod Clockwise
-- Records: of a job with loads, of a job without, and the rest of a longer buffer.
pub mod Added
pub mod Sides
pub mod Own
pub mod RecordOf
pub mod Admitted
pub mod Unwired
pub mod JobBytes
pub mod Over
pub mod LegalRecord
-- Calls: the tests of a paragraph in their order.
pub mod Asked
-- The listing: its length, and its numbers.
pub mod ListingLength
pub mod Decimals
-- Text: one verdict at most, what is read is proper, and reading and writing undo each other.
pub mod TextUnique
pub mod TextProper
pub mod TextNames
pub mod WritesRead
pub mod ReadsWritten
pub mod RoundTrip
-- Examples of document 01 by computed tests.
pub mod Tables
pub mod Refusals
pub mod ByTest
pub mod Edges
pub mod Least
pub mod ShortByTest
pub mod ShortShut
pub mod Short34
pub mod ShortRim
pub mod ShortLaid
pub mod ShortOwn
pub mod Shorts
pub mod Wireds
pub mod BothWays
pub mod FourPins
pub mod DirectExit
pub mod Tolls
pub mod LeastLengths
pub mod LaneExamples
pub mod LeftExamples
pub mod Measures
pub mod TextExamples
-- K6: draws, and the job of a trial.
pub mod Draws
pub mod TrialProper
