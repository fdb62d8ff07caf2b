-- The guarantee over every list of calls, and that pins hold (Guarantee), that an opening that is answered done is accepted (Promises), and the
-- paper's cases (Cases).
pub mod TraceHeld
pub mod Guarantee
pub mod Promises
pub mod Cases
