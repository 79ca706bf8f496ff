mod WordLaws
mod DataNets
mod Filling
mod LineBits
mod Running
mod Taking
mod Headed
