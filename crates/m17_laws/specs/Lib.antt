pub mod LegalBooksLaws
-- What it is to be at both ends, and what follows.
pub mod BothEnds
pub mod ClientAndLinkLaws
