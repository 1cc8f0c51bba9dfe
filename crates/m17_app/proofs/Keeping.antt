-- Bytes that an interrupted read leaves.
use Rattle.std.proofs.Common.{ℕ, List, Option, None, Some, refl, ◌∙◌, sym}
use Rattle.std.specs.Io.KnownBytes.{Keeps, Consumes}

pub keeps-refl : (o : Option (List ℕ)) → Keeps o o
keeps-refl None = tt
keeps-refl (Some xs) = refl

pub keeps-keeps : (a b c : Option (List ℕ)) → Keeps a b → Keeps b c → Keeps a c
keeps-keeps None b c h k = tt
keeps-keeps (Some xs) None c h k = absurd h
keeps-keeps (Some xs) (Some ys) None h k = absurd k
keeps-keeps (Some xs) (Some ys) (Some zs) h k = k ∙ h

pub keeps-consumes : (a b c : Option (List ℕ)) (bs : List ℕ) → Keeps a b → Consumes b c bs → Consumes a c bs
keeps-consumes None b c bs h k = tt
keeps-consumes (Some xs) None c bs h k = absurd h
keeps-consumes (Some xs) (Some ys) None bs h k = absurd k
keeps-consumes (Some xs) (Some ys) (Some zs) bs h k = sym h ∙ k
