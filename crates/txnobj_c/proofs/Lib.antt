mod Values
mod HeldValues
mod OfClients
mod Opening
