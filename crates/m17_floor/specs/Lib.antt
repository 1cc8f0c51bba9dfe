-- What callers speak of: what a floor is made with, what happened and who is in, the rule, the
-- verdict at a position, the same acts of other members, what is kept, the laws; which books are
-- legal, what a list leaves behind, the laws of these.
pub mod Setup
pub mod Acts
pub mod Rule
pub mod Floor
pub mod Renamed
pub mod StandsFor
pub mod Laws
pub mod Legal
pub mod Alike
pub mod LegalLaws
-- For the code alone: what a kept frame is seen as, and what the plain program has looked up so
-- far.
pub mod Kept
pub mod Plain
