mod Ahead
