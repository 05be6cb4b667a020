-- AllCases.antt has every computed case about the definitions. Only.antt and RankBytes.antt are the two theorems that stand here, since an edit of a
-- definition must break them (document 02, [7]). All else that is proved of the definitions stands in crate laws.
pub mod AllCases
pub mod Computing
pub mod Starred
pub mod Pins
pub mod PinsPlaces
pub mod PinsSteps
pub mod PinsProbes
pub mod PinsNext
pub mod PinsLayered
pub mod PinsSets
pub mod PinsPlans
pub mod PinsTaken
pub mod PinsPage
pub mod PinsLucene
pub mod PinsJudge
pub mod PinsRuns
pub mod PinsReadFrom
pub mod PinsLayeredCalls
pub mod Only
pub mod RankBytes
