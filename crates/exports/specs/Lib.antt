-- What the C names answer.
pub mod Numbers
-- No promise of the C names names this.
pub mod Internal
